-- Variables that stand in a term.
use Rattle.std.proofs.Common.{◌≡◌, ℕ, Bool, true, false, true≢false, ◌&&◌, ◌||◌, eq-eqb, List, [], ◌∷◌, map, sym, refl, ap, ap₂, ◌∙◌}
use Rattle.std.specs.List.{list_any}
use Rattle.law_sig.specs.Lists.{Each}
use Rattle.law_sig.specs.declared.tree.SortId.{SortId}
use Rattle.law_sig.specs.declared.tree.SymId.{SymId}
use Rattle.law_sig.specs.declared.tree.Tree.{Tree}
use Rattle.law_sig.specs.declared.tree.Tree.TheVariants.{Var, App}
use Rattle.law_laws.proofs.TreeFacts.{tree_induct, fold-Var, fold-App}
use Rattle.law_laws.proofs.Renaming.{all_true}
use Rattle.law_own.specs.Own.{VarSet, within_step, has_within, stands, stands_step, vars_of}

any_of : {A : Type 0} (f : A → Bool) (xs : List A) → list_any (λ b. b) (map f xs) ≡ list_any f xs
any_of f [] = refl
any_of f (x ∷ xs) = ap (λ b. f x || b) (any_of f xs)

pub stands-App : (sort : SortId) (index : ℕ) (t : Tree) (f : SymId) (args : List Tree) → t ≡ App f args
    → list_any (stands sort index) args ≡ stands sort index t
stands-App sort index t f args is = sym (any_of (stands sort index) args) ∙ sym (fold-App Bool (stands_step sort index) f args) ∙ ap (stands sort index) (sym is)

or_left : (a b : Bool) → a ≡ true → (a || b) ≡ true
or_left true b e = refl
or_left false b e = absurd (true≢false (sym e))

or_right : (a b : Bool) → b ≡ true → (a || b) ≡ true
or_right true b e = refl
or_right false b e = e

module _ (vars : VarSet) where
  -- the set has each variable of the term
  abbrev HasAll : Tree → Type 0
  HasAll t = (s : SortId) (i : ℕ) → stands s i t ≡ true → vars s i ≡ true

  all_args : (ts : List Tree) → Each (λ t. HasAll t → has_within vars t ≡ true) ts → ((s : SortId) (i : ℕ) → list_any (stands s i) ts ≡ true → vars s i ≡ true)
      → Each (λ t. has_within vars t ≡ true) ts
  all_args [] have h = tt
  all_args (t ∷ ts) have h = (
    have.0 (λ s i e. h s i (or_left (stands s i t) (list_any (stands s i) ts) e)),
    all_args ts have.1 (λ s i e. h s i (or_right (stands s i t) (list_any (stands s i) ts) e)),
  )

  itself : (s : SortId) (i : ℕ) → stands s i (Var s i) ≡ true
  itself s i = fold-Var Bool (stands_step s i) s i ∙ ap₂ ◌&&◌ (eq-eqb s.0 s.0 refl) (eq-eqb i i refl)

  pub all_within : (t : Tree) → HasAll t → has_within vars t ≡ true
  all_within = tree_induct (λ t. HasAll t → has_within vars t ≡ true)
      (λ s i h. fold-Var Bool (within_step vars) s i ∙ h s i (itself s i))
      (λ f args have h. fold-App Bool (within_step vars) f args
      ∙ all_true (has_within vars) args (all_args args have (λ s i e. h s i (sym (stands-App s i (App f args) f args refl) ∙ e))))

-- the variables of two terms are those of each
pub first_within : (s t : Tree) → has_within (vars_of s t) s ≡ true
first_within s t = all_within (vars_of s t) s (λ sort i e. or_left (stands sort i s) (stands sort i t) e)

pub second_within : (s t : Tree) → has_within (vars_of s t) t ≡ true
second_within s t = all_within (vars_of s t) t (λ sort i e. or_right (stands sort i s) (stands sort i t) e)
