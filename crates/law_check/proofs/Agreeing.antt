-- One equation at a test, at all tests, and one after another.
use Rattle.std.proofs.Common.{◌≡◌, ◌≢◌, ℕ, suc, ◌+◌, ◌-◌, ◌<◌, ◌≤◌, inr, Option, Some, None, MatchOption, List, ◌∷◌, length, drop, slice_index_or, sym, refl, ap, ◌∙◌, subst, arith}
use Rattle.std.proofs.lemmas.List.{drop_more, drop_all}
use Rattle.law_sig.specs.declared.tree.Tree.{Tree}
use Rattle.law_sig.specs.declared.parts.Equation.{Equation}
use Rattle.law_sig.specs.declared.parts.SigParts.{SigParts}
use Rattle.law_ids.specs.declared.ids.ValueId.{ValueId}
use Rattle.law_ids.specs.Values.{Grows, IsShared, tree_of}
use Rattle.law_draws.specs.Draws.{pools_by}
use Rattle.law_valid.specs.declared.rule.Answer.{Answer}
use Rattle.law_valid.specs.declared.rule.Answer.TheVariants.{Yes, No, Over}
use Rattle.law_valid.specs.declared.rule.Rule.{Rule}
use Rattle.law_valid.specs.declared.rule.Rule.TheVariants.{V3}
use Rattle.law_valid.specs.Judged.{If, Valued, Tests, AtTests, Background}
use Rattle.law_testing.specs.Values.{IsValue, tests_by, val_by}
use Rattle.law_testing.proofs.Testing.{value_stays}
use Rattle.law_checking.specs.Parts.{IsYes}
use Rattle.law_checking.proofs.Goes.{tests_goes, at_tests_goes}

-- the item at a place, and what follows it
pub next_item : {A : Type 0} (xs : List A) (at : ℕ) (x : A) → at < length xs → x ≡ slice_index_or xs at x → drop at xs ≡ x ∷ drop (at + 1) xs
next_item xs at x less is = drop_more xs at x less ∙ ap (λ y. y ∷ drop (at + 1) xs) (sym is)

-- the value that was found
pub has_value : (parts : SigParts) (bank : List Tree) (test : ℕ) (t : Tree) (o : Option ValueId) (v : ValueId) → o ≡ Some v
    → MatchOption o (val_by parts test t ≡ None) (IsValue parts bank test t) → IsValue parts bank test t v
has_value parts bank test t o v is h = subst (λ k. MatchOption k (val_by parts test t ≡ None) (IsValue parts bank test t)) is h

module _ (parts : SigParts) (rule : Rule) (entry : ℕ) (q : Equation) where
  -- At one test

  abbrev At : Option Tree → Option Tree → ℕ → Answer → Type 0
  At v w test = Valued v (Over entry test q.left) (λ v. Valued w (Over entry test q.right) (λ w. If (v ≡ w) (No rule entry) IsYes))

  abbrev pub AtOne : ℕ → Answer → Type 0
  AtOne test = Tests parts (pools_by parts) rule entry q IsYes 1 test

  by_values : (test : ℕ) (v w : Tree) (a : Answer) → val_by parts test q.left ≡ Some v → val_by parts test q.right ≡ Some w → If (v ≡ w) (No rule entry) IsYes a → AtOne test a
  by_values test v w a left right h =
      subst (λ o. At o (val_by parts test q.right) test a) (sym left) (subst (λ o. At (Some v) o test a) (sym right) h)

  pub values_differ : (old bank : List Tree) (test : ℕ) (v w : ValueId) → IsValue parts old test q.left v → Grows old bank → IsValue parts bank test q.right w
      → IsShared bank → v ≢ w → AtOne test (No rule entry)
  values_differ old bank test v w left grows right shared other =
      let kept = value_stays parts old bank test q.left v grows left in
      by_values test (tree_of bank v) (tree_of bank w) (No rule entry) kept.is right.is (inr (λ same. other (shared v w kept.held right.held same), refl))

  -- At all tests

  abbrev AtAll : Answer → Type 0
  AtAll = AtTests parts (pools_by parts) rule entry q IsYes

  -- what is answered from this test on is the answer
  abbrev pub FromTest : ℕ → Type 0
  FromTest test = (n : ℕ) → test + n ≡ tests_by parts → (a : Answer) → Tests parts (pools_by parts) rule entry q IsYes n test a → AtAll a

  pub from_first : FromTest 0
  from_first n e a h = subst (λ k. Tests parts (pools_by parts) rule entry q IsYes k 0 a) (let same : n ≡ tests_by parts = omega arith in same) h

  pub test_fails : (test : ℕ) (a : Answer) → test < tests_by parts → FromTest test → AtOne test a → (a ≡ Yes → ⊥) → AtAll a
  test_fails test a less from one never =
      let n = tests_by parts - test - 1 in
      from (suc n) (omega arith) a ((tests_goes parts (pools_by parts) rule entry q (Tests parts (pools_by parts) rule entry q IsYes n (suc test)) 1 test a one).0 never)

  pub test_passes : (test : ℕ) (a : Answer) → FromTest test → AtOne test a → a ≡ Yes → FromTest (test + 1)
  test_passes test a from one good n e b h =
      from (suc n) (omega arith) b
      ((tests_goes parts (pools_by parts) rule entry q (Tests parts (pools_by parts) rule entry q IsYes n (suc test)) 1 test a one).1 good b
      (subst (λ k. Tests parts (pools_by parts) rule entry q IsYes n k b) (let on : test + 1 ≡ suc test = omega arith in on) h))

  pub all_pass : (test : ℕ) → test ≡ tests_by parts → FromTest test → AtAll Yes
  all_pass test end from = from 0 (omega arith) Yes refl

-- The background

module _ (parts : SigParts) where
  abbrev Back : List Equation → Answer → Type 0
  Back qs = Background parts (pools_by parts) qs IsYes

  abbrev pub FromEquation : List Equation → ℕ → Type 0
  FromEquation qs at = (a : Answer) → Back (drop at qs) a → Back qs a

  equation_goes : (qs : List Equation) (at : ℕ) (q : Equation) (a : Answer) → at < length qs → q ≡ slice_index_or qs at q → FromEquation qs at
      → AtTests parts (pools_by parts) V3 0 q IsYes a → ((a ≡ Yes → ⊥) → Back qs a) × (a ≡ Yes → FromEquation qs (at + 1))
  equation_goes qs at q a less is from one =
      let g = at_tests_goes parts (pools_by parts) V3 0 q (Back (drop (at + 1) qs)) a one in
      let back : (b : Answer) → Back (q ∷ drop (at + 1) qs) b → Back qs b
      = λ b h. from b (subst (λ l. Back l b) (sym (next_item qs at q less is)) h) in
      (λ never. back a (g.0 never), λ good b h. back b (g.1 good b h))

  pub equation_fails : (own qs : List Equation) (at : ℕ) (q : Equation) (a : Answer) → qs ≡ own → at < length qs → q ≡ slice_index_or qs at q → FromEquation qs at
      → AtTests parts (pools_by parts) V3 0 q IsYes a → (a ≡ Yes → ⊥) → Back own a
  equation_fails own qs at q a same less is from one never = subst (λ l. Back l a) same ((equation_goes qs at q a less is from one).0 never)

  pub equation_passes : (qs : List Equation) (at : ℕ) (q : Equation) (a : Answer) → at < length qs → q ≡ slice_index_or qs at q → FromEquation qs at
      → AtTests parts (pools_by parts) V3 0 q IsYes a → a ≡ Yes → FromEquation qs (at + 1)
  equation_passes qs at q a less is from one good = (equation_goes qs at q a less is from one).1 good

  pub all_hold : (own qs : List Equation) (at : ℕ) → qs ≡ own → length qs ≤ at → FromEquation qs at → Back own Yes
  all_hold own qs at same end from = subst (λ l. Back l Yes) same (from Yes (subst (λ l. Back l Yes) (sym (drop_all at qs end)) refl))
