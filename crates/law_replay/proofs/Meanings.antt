-- What the terms of a chain mean, and two terms compared argument by argument.
use Rattle.std.proofs.Common.{◌≡◌, ℕ, zero, suc, ◌+◌, ◌<◌, ◌≤◌, ◌↔◌, ◌⊎◌, inl, inr, List, [], ◌∷◌, ◌++◌, length, map, take, Bool, true, false, true≢false, IsTrue, Some, None, slice_get, slice_index_or, sym, refl, ap, ap₂, ◌∙◌, arith}
use denote.Bor.{Bor}
use Rattle.law_sig.specs.Trees.{substituted}
use Rattle.law_sig.specs.declared.tree.SymId.{SymId}
use Rattle.law_sig.specs.declared.tree.Tree.{Tree}
use Rattle.law_sig.specs.declared.tree.Tree.TheVariants.{App}
use Rattle.law_laws.proofs.TreeFacts.{same_app, var_no_app, substituted-App}
use Rattle.law_sig.specs.declared.chain.Bind.{Bind}
use Rattle.law_sig.specs.Chains.{bound_in, Rewrites}
use Rattle.law_replay.specs.declared.term.Term.{Term}
use Rattle.law_replay.specs.declared.term.Term.TheOpen as t
use Rattle.law_replay.specs.declared.term.Term.TheVariants.{Under, Over, rolls-Under, rolls-Over}
use Rattle.law_replay.specs.declared.term.Term.TheFolds.{fold-roll-Term}
use Rattle.law_replay.specs.Terms.{meaning, meaning_step, IsVariable}
use Rattle.law_chains.proofs.Replacing.{Below, inverted, outside}

pub means-Under : (term : Term) (side : Bor Tree) (binds : Bor (List Bind)) → term ≡ Under side binds → meaning term ≡ substituted (bound_in binds.now) side.now
means-Under term side binds is = ap meaning (is ∙ sym (rolls-Under side binds)) ∙ fold-roll-Term Tree meaning_step (t.Under side binds)

pub means-Over : (term : Term) (f : SymId) (args : Bor (List Term)) → term ≡ Over f args → meaning term ≡ App f (map meaning args.now)
means-Over term f args is = ap meaning (is ∙ sym (rolls-Over f args)) ∙ fold-roll-Term Tree meaning_step (t.Over f args)

-- Lists beside one another

pub taken_more : {A : Type 0} (xs : List A) (i : ℕ) (x : A) → i < length xs → x ≡ slice_index_or xs i x → take (i + 1) xs ≡ take i xs ++ x ∷ []
taken_more [] i x early is = absurd (omega arith)
taken_more (y ∷ xs) zero x early is = ap (λ z. z ∷ []) (sym is)
taken_more (y ∷ xs) (suc i) x early is =
    let up : suc i + 1 ≡ suc (i + 1) = omega arith in
    ap (λ n. take n (y ∷ xs)) up ∙ ap (λ l. y ∷ l) (taken_more xs i x (omega arith) is)

taken_all : {A : Type 0} (xs : List A) (i : ℕ) → length xs ≤ i → take i xs ≡ xs
taken_all [] zero late = refl
taken_all [] (suc i) late = refl
taken_all (x ∷ xs) zero late = absurd (omega arith)
taken_all (x ∷ xs) (suc i) late = ap (λ l. x ∷ l) (taken_all xs i (omega arith))

map_last : {A B : Type 0} (h : A → B) (xs : List A) (x : A) → map h (xs ++ x ∷ []) ≡ map h xs ++ h x ∷ []
map_last h [] x = refl
map_last h (y ∷ xs) x = ap (λ l. h y ∷ l) (map_last h xs x)

pub length_map : {A B : Type 0} (h : A → B) (xs : List A) → length (map h xs) ≡ length xs
length_map h [] = refl
length_map h (x ∷ xs) = ap suc (length_map h xs)

pub item_of : {A B : Type 0} (h : A → B) (xs : List A) (i : ℕ) (x : A) → i < length xs → x ≡ slice_index_or xs i x → slice_get (map h xs) i ≡ Some (h x)
item_of h [] i x early is = absurd (omega arith)
item_of h (y ∷ xs) zero x early is = ap (λ z. Some (h z)) (sym is)
item_of h (y ∷ xs) (suc i) x early is = item_of h xs i x (omega arith) is

pub more_same : {A B : Type 0} (h : A → Tree) (k : B → Tree) (xs : List A) (ys : List B) (i : ℕ) (x : A) (y : B)
    → i < length xs → x ≡ slice_index_or xs i x → i < length ys → y ≡ slice_index_or ys i y → h x ≡ k y
    → map h (take i xs) ≡ map k (take i ys) → map h (take (i + 1) xs) ≡ map k (take (i + 1) ys)
more_same h k xs ys i x y early at early' at' e have =
    ap (map h) (taken_more xs i x early at) ∙ map_last h (take i xs) x ∙ ap₂ (λ l z. l ++ z ∷ []) have e
    ∙ sym (map_last k (take i ys) y) ∙ ap (map k) (sym (taken_more ys i y early' at'))

module _ {A B : Type 0} (h : A → Tree) (k : B → Tree) (s u : Tree) (f g : SymId) (xs : List A) (ys : List B) (is : s ≡ App f (map h xs)) (is' : u ≡ App g (map k ys)) where
  pub other_count : (length xs ≡ length ys → ⊥) → IsTrue false ↔ (s ≡ u)
  other_count never = (
    λ e. absurd (true≢false (sym e)),
    λ e. absurd (never (sym (length_map h xs) ∙ ap length (same_app f g (map h xs) (map k ys) (sym is ∙ e ∙ is')).1 ∙ length_map k ys)),
  )

  pub other_item : (i : ℕ) (x : A) (y : B) → i < length xs → x ≡ slice_index_or xs i x → i < length ys → y ≡ slice_index_or ys i y → (h x ≡ k y → ⊥)
      → IsTrue false ↔ (s ≡ u)
  other_item i x y early at early' at' never = (
    λ e. absurd (true≢false (sym e)),
    λ e. absurd (never (let p = sym (item_of h xs i x early at) ∙ ap (λ l. slice_get l i) (same_app f g (map h xs) (map k ys) (sym is ∙ e ∙ is')).1 ∙ item_of k ys i y early' at' in cc)),
  )

  pub all_same : (i : ℕ) → f ≡ g → length xs ≤ i → length ys ≤ i → map h (take i xs) ≡ map k (take i ys) → IsTrue true ↔ (s ≡ u)
  all_same i heads late late' have = (
    λ e. is ∙ ap₂ App heads (ap (map h) (sym (taken_all xs i late)) ∙ have ∙ ap (map k) (taken_all ys i late')) ∙ sym is',
    λ e. refl,
  )

-- the same where the second list stands for itself
pub whole_same : (s u : Tree) (f g : SymId) (xs : List Term) (zs : List Tree) (i : ℕ) → s ≡ App f (map meaning xs) → u ≡ App g zs → f ≡ g
    → length xs ≤ i → length zs ≤ i → map meaning (take i xs) ≡ take i zs → IsTrue true ↔ (s ≡ u)
whole_same s u f g xs zs i is is' heads late late' have = (
  λ e. is ∙ ap₂ App heads (ap (map meaning) (sym (taken_all xs i late)) ∙ have ∙ taken_all zs i late') ∙ sym is',
  λ e. refl,
)

pub side_is : (binds : List Bind) (side : Tree) (f : SymId) (args : List Tree) → side ≡ App f args
    → substituted (bound_in binds) side ≡ App f (map (substituted (bound_in binds)) args)
side_is binds side f args is = ap (substituted (bound_in binds)) is ∙ substituted-App (bound_in binds) f args

-- one head, by its number
pub one_head : (f g : SymId) → f.0 ≡ g.0 → f ≡ g
one_head f g e = ap id e
  where
    id : ℕ → SymId
    id n = record { 0 = n }

-- a test for one of two equal terms is one for the other
pub told_by : (r : Bool) (s s' u : Tree) → s ≡ s' → (IsTrue r ↔ (s' ≡ u)) → IsTrue r ↔ (s ≡ u)
told_by r s s' u e h = (λ x. e ∙ h.0 x, λ k. h.1 (sym e ∙ k))

-- One argument replaced

pub none_of : {A B : Type 0} (h : A → B) (xs : List A) (i : ℕ) → length xs ≤ i → slice_get (map h xs) i ≡ None
none_of h [] zero late = refl
none_of h [] (suc i) late = refl
none_of h (x ∷ xs) zero late = absurd (omega arith)
none_of h (x ∷ xs) (suc i) late = none_of h xs i (omega arith)

module _ (from to : Tree) (place : List ℕ) (k : ℕ) (rest : List ℕ) (place_is : place ≡ k ∷ rest) where
  -- a variable has no place below it
  pub no_place : (s : Tree) → IsVariable s → (u : Tree) → Rewrites from to place s u → ⊥
  no_place s v u h = by (inverted h)
    where
      by : ((place ≡ []) × (s ≡ from) × (u ≡ to)) ⊎ Below from to place s u → ⊥
      by (inl e) = cc (sym place_is ∙ e.0)
      by (inr b) = var_no_app v.0 v.1 b.head (b.before ++ b.old ∷ b.after) (sym v.2 ∙ b.term_is)

  module _ (s : Tree) (f : SymId) (args : List Term) (is : s ≡ App f (map meaning args)) where
    pub past_all : length args ≤ k → (u : Tree) → Rewrites from to place s u → ⊥
    past_all late = outside from to place k rest s f (map meaning args) (record { place_is = place_is; term_is = is }) (none_of meaning args k late)
