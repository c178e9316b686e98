-- Agreement of two items at the first of the tests, while what is meant stays; and an error that is handed on.
use Rattle.std.proofs.Common.{◌≡◌, ℕ, ◌<◌, ◌≤◌, ◌+◌, ◌*◌, ◌⊎◌, inl, inr, List, length, slice_index, true, false, not, eqb, true≢false, sym, ap, ◌∙◌, eq-eqb, arith, subst, Result, Ok, Err}
use Rattle.std.proofs.lemmas.Bool.Decides.{nat_tests}
use Rattle.std.specs.Prelude.{IfErr, OnErr}
use Rattle.std.specs.Result.{IsErrAnd}
use Rattle.law_splits.specs.Agree.{AgreeAt, Agree}
use Rattle.law_ids.specs.declared.ids.ValueId.{ValueId}
use Rattle.law_tree.specs.Asking.{IsOneOf, MayStays, MeaningStays, SaysNothingNew}
use Rattle.law_tree.specs.Comparing.{AgreeBelow, IsAskedUpTo}
use Rattle.law_tree.proofs.ListFacts.{before_or, in_place}

pub meaning_after : {I : Type 0} (L M N : I → ℕ → ValueId → Type 0) → MeaningStays L M → MeaningStays M N → MeaningStays L N
meaning_after L M N p q = λ x t v h. q x t v (p x t v h)

pub may_after : {I : Type 0} (L M N : I → ℕ → Type 0) → MayStays L M → MayStays M N → MayStays L N
may_after L M N p q = λ x t h. q x t (p x t h)

pub below_stays : {I : Type 0} (M N : I → ℕ → ValueId → Type 0) → MeaningStays M N → (a b : I) (tests : List ℕ) (n : ℕ) → AgreeBelow M a b tests n → AgreeBelow N a b tests n
below_stays M N stays a b tests n h = λ k lt. let (v, p, q) = h k lt in (v, stays a _ v p, stays b _ v q)

pub values_differ : (v w : ValueId) → true ≡ not (eqb v.0 w.0) → w ≡ v → ⊥
values_differ v w h e = let s : eqb v.0 w.0 ≡ true = eq-eqb v.0 w.0 (sym (ap (λ (z : ValueId). z.0) e)) in true≢false (h ∙ ap not s)

pub values_same : (v w : ValueId) → false ≡ not (eqb v.0 w.0) → w ≡ v
values_same v w h = let e : w.0 ≡ v.0 = grind (arith, nat_tests) in ap (λ n. let r : ValueId = record { 0 = n } in r) e

module _ {I : Type 0} (M : I → ℕ → ValueId → Type 0) (a b : I) (tests : List ℕ) where
  -- tests that say nothing new don't tell apart
  pub skipped : (from to : ℕ) → AgreeBelow M a b tests from → SaysNothingNew M a b tests from to → AgreeBelow M a b tests to
  skipped from to agree new k lt = at (before_or k from)
    where
      at : ((k < from) ⊎ (from ≤ k)) → AgreeAt M a b (slice_index tests k)
      at (inl before) = agree k before
      at (inr ge) = let (j, lt, p, q) = new k ge lt in let (v, h, i) = agree j lt in (v, p v h, q v i)

  pub agree_all : (n : ℕ) → length tests ≤ n → AgreeBelow M a b tests n → Agree (IsOneOf tests) M a b
  agree_all n all agree test at = let (k, lt, e) = in_place tests test at in subst (λ z. AgreeAt M a b z) e (agree k (omega arith))

  pub asked_upto : (n m before now : ℕ) → n ≤ length tests → n ≤ m + 1 → AgreeBelow M a b tests m → now ≤ before + 2 * n → IsAskedUpTo M a b tests before now
  asked_upto n m before now within le agree few = record { upto = n; within = within; agree = λ k lt. agree k (omega arith); few = few }

pub passed : {T E : Type 0} (r : Result T E) (e : E) (Q : E → Type 0) → IsErrAnd r (λ y. y ≡ e) → Q e → IfErr r Q
passed (Ok x) e Q h q = absurd h
passed (Err y) e Q h q = subst Q (sym h) q

pub on_error : {T E : Type 0} (r : Result T E) (e : E) (P : Type 0) → IsErrAnd r (λ y. y ≡ e) → P → OnErr r P
on_error (Ok x) e P h p = absurd h
on_error (Err y) e P h p = p
