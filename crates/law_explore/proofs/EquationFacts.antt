-- The list of equations, place by place.
use Rattle.std.proofs.Common.{◌≡◌, ℕ, ◌+◌, ◌<◌, ◌==◌, Bool, true, false, if◌then◌else◌, List, [], ◌∷◌, ◌++◌, length, get_or, Some, arith, sym, ap, ap₂, ◌∙◌, refl, add-one}
use Rattle.std.proofs.lemmas.Bool.{eqb-true, eq-eqb}
use Rattle.std.proofs.lemmas.List.{append-nil, get_or_default}
use Rattle.std.proofs.lemmas.Option.{slice_get-get_or}
use Rattle.law_sig.specs.declared.tree.Tree.{Tree}
use Rattle.law_sig.specs.declared.parts.Equation.{Equation}
use Rattle.law_listing.specs.Rows.{each_below}
use Rattle.law_explore.specs.Equations.{equation_of, equation_at}

each_below_more : {A : Type 0} (n : ℕ) (f : ℕ → List A) → each_below (n + 1) f ≡ each_below n f ++ f n
each_below_more n f = rw add-one refl

-- the equation where the first place is another one
abbrev pub equation_if : Bool → Tree → Tree → List Equation
equation_if same left right = if same then [] else record { left = left; right = right } ∷ []

test_false : (first at : ℕ) (b : Bool) → (first == at) ≡ b → (first ≡ at → ⊥) → b ≡ false
test_false first at true e other = absurd (other (eqb-true first at e))
test_false first at false e other = refl

module _ (terms : List Tree) (firsts : List ℕ) (at : ℕ) (t : Tree) (less : at < length terms) (long : length firsts ≡ length terms) (is : t ≡ get_or terms at t) where
  equation_here : equation_at terms firsts at ≡ equation_if (get_or firsts at 0 == at) t (get_or terms (get_or firsts at 0) t)
  equation_here = ap₂ (equation_of terms at) (slice_get-get_or terms at t less ∙ ap Some (sym is)) (slice_get-get_or firsts at 0 (omega arith))

  -- the equations so far, where this place is its own first place, and where it isn't
  pub same_place : (found : List Equation) → found ≡ each_below at (equation_at terms firsts) → get_or firsts at 0 ≡ at
      → found ≡ each_below (at + 1) (equation_at terms firsts)
  same_place found so_far same =
      let none : equation_at terms firsts at ≡ [] = equation_here ∙ ap (λ b. equation_if b t (get_or terms (get_or firsts at 0) t)) (eq-eqb (get_or firsts at 0) at same) in
      so_far ∙ sym (append-nil (each_below at (equation_at terms firsts))) ∙ ap (λ l. each_below at (equation_at terms firsts) ++ l) (sym none)
      ∙ sym (each_below_more at (equation_at terms firsts))

  pub other_place : (found more : List Equation) (left right partner : Tree) → found ≡ each_below at (equation_at terms firsts) → (get_or firsts at 0 ≡ at → ⊥)
      → get_or firsts at 0 < length terms → left ≡ t → right ≡ partner → partner ≡ get_or terms (get_or firsts at 0) partner
      → more ≡ found ++ record { left = left; right = right } ∷ []
      → more ≡ each_below (at + 1) (equation_at terms firsts)
  other_place found more left right partner so_far other within is_left is_right stands grows =
      let differs = test_false (get_or firsts at 0) at (get_or firsts at 0 == at) refl other in
      let one : equation_at terms firsts at ≡ equation_if false t (get_or terms (get_or firsts at 0) t)
      = equation_here ∙ ap (λ b. equation_if b t (get_or terms (get_or firsts at 0) t)) differs in
      let partner_is : right ≡ get_or terms (get_or firsts at 0) t = is_right ∙ stands ∙ get_or_default terms (get_or firsts at 0) partner t within in
      grows ∙ ap (λ l. l ++ record { left = left; right = right } ∷ []) so_far
      ∙ ap₂ (λ l r. each_below at (equation_at terms firsts) ++ equation_if false l r) is_left partner_is
      ∙ ap (λ l. each_below at (equation_at terms firsts) ++ l) (sym one) ∙ sym (each_below_more at (equation_at terms firsts))
