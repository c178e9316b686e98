-- The lists of schemas, level by level.
use Rattle.std.proofs.Common.{◌≡◌, ℕ, ◌+◌, List, [], ◌∷◌, ◌++◌, length, refl, ap, sym, ◌∙◌, add-one}
use Rattle.std.proofs.lemmas.List.{append-nil, length_push}
use Rattle.law_sig.specs.declared.tree.Tree.{Tree}
use Rattle.law_sig.specs.declared.parts.SigParts.{SigParts}
use Rattle.law_listing.specs.Rows.{each_below, crossed}
use Rattle.law_listing.specs.Listing.{level, levels_to}

-- one level more
levels_more : (parts : SigParts) (n : ℕ) → levels_to parts (n + 1) ≡ levels_to parts n ++ level parts (levels_to parts n) (n + 1) ∷ []
unfolding levels_to
levels_more parts n = rw add-one refl

levels_none : (parts : SigParts) → levels_to parts 0 ≡ [] ∷ []
unfolding levels_to
levels_none parts = refl

-- what one more level makes
pub level_next : (parts : SigParts) (n : ℕ) (levels more : List (List Tree)) (next : List Tree) → levels ≡ levels_to parts n → length levels ≡ n + 1
    → more ≡ levels ++ next ∷ [] → next ≡ level parts levels (length levels) → (more ≡ levels_to parts (n + 1)) × (length more ≡ n + 1 + 1)
level_next parts n levels more next is long grows made = (
  grows ∙ ap (λ x. levels ++ x ∷ []) made ∙ ap (λ k. levels ++ level parts levels k ∷ []) long ∙ ap (λ x. x ++ level parts x (n + 1) ∷ []) is ∙ sym (levels_more parts n),
  ap length grows ∙ length_push levels next ∙ ap (λ k. k + 1) long,
)

-- the first one
pub level_first : (parts : SigParts) (none more : List (List Tree)) (next : List Tree) → none ≡ [] → next ≡ [] → more ≡ none ++ next ∷ []
    → (more ≡ levels_to parts 0) × (length more ≡ 1)
level_first parts none more next empty last grows =
    let e : more ≡ [] ∷ [] = grows ∙ ap (λ x. x ++ next ∷ []) empty ∙ ap (λ x. x ∷ []) last in
    (e ∙ sym (levels_none parts), ap length e)

-- with no row there is nothing to stand in front of
pub crossed_none : {A : Type 0} (xs : List A) → crossed xs [] ≡ []
crossed_none [] = refl
crossed_none (x ∷ xs) = crossed_none xs

-- a number that lists nothing adds nothing
pub nothing_more : {A : Type 0} (n : ℕ) (f : ℕ → List A) (found : List A) → found ≡ each_below n f → f n ≡ [] → found ≡ each_below (n + 1) f
nothing_more n f found so_far none = so_far ∙ sym (append-nil (each_below n f)) ∙ ap (λ l. each_below n f ++ l) (sym none) ∙ rw add-one refl
