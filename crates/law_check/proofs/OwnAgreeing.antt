-- What holds at the own tests up to one holds at all tests up to the next.
use Rattle.std.proofs.Common.{◌≡◌, ℕ, zero, suc, ◌+◌, ◌<◌, ◌≤◌, Option, Some, None, refl, subst, arith}
use Rattle.law_sig.specs.declared.tree.Tree.{Tree}
use Rattle.law_sig.specs.declared.parts.Equation.{Equation}
use Rattle.law_sig.specs.declared.parts.SigParts.{SigParts}
use Rattle.law_draws.specs.Draws.{pools_by}
use Rattle.law_valid.specs.declared.rule.Answer.{Answer}
use Rattle.law_valid.specs.declared.rule.Answer.TheVariants.{Yes, No, Over}
use Rattle.law_valid.specs.declared.rule.Rule.{Rule}
use Rattle.law_valid.specs.Judged.{If, Valued, AtTests}
use Rattle.law_testing.specs.Values.{IsTestable, tests_by, val_by}
use Rattle.law_laws.specs.Renaming.{HasWidth}
use Rattle.law_own.specs.Own.{own, IsNextOwn, vars_of}
use Rattle.law_own.proofs.OwnTests.{own_tells, passes_on}
use Rattle.law_own.proofs.Standing.{first_within, second_within}
use Rattle.law_checking.specs.Parts.{IsYes}
use Rattle.law_check.proofs.Agreeing.{AtOne, FromTest, from_first, test_fails, test_passes, all_pass}

module _ (parts : SigParts) (rule : Rule) (entry : ℕ) (q : Equation) where
  abbrev At : Option Tree → Option Tree → ℕ → Answer → Type 0
  At v w test = Valued v (Over entry test q.left) (λ v. Valued w (Over entry test q.right) (λ w. If (v ≡ w) (No rule entry) IsYes))

  never : {P : Type 0} (other : ℕ) (t : Tree) → Yes ≡ Over entry other t → P
  never other t e = absurd (let f : ⊥ = cc in f)

  -- nothing is wrong at a test with the same values
  same_at : (v w : Option Tree) (other test : ℕ) → At v w other Yes → At v w test Yes
  same_at None w other test h = never other q.left h
  same_at (Some v) None other test h = never other q.right h
  same_at (Some v) (Some w) other test h = h

  moves : (other test : ℕ) → val_by parts other q.left ≡ val_by parts test q.left → val_by parts other q.right ≡ val_by parts test q.right
      → AtOne parts rule entry q other Yes → AtOne parts rule entry q test Yes
  moves other test left right h = subst (λ o. At o (val_by parts test q.right) test Yes) left
      (subst (λ o. At (val_by parts other q.left) o test Yes) right (same_at (val_by parts other q.left) (val_by parts other q.right) other test h))

  -- nothing is wrong at the tests before
  abbrev pub PassesBelow : ℕ → Type 0
  PassesBelow test = (before : ℕ) → before < test → AtOne parts rule entry q before Yes

  pub passes_none : PassesBelow 0
  passes_none before less = absurd (omega arith)

  pub from_passed : (test : ℕ) → PassesBelow test → FromTest parts rule entry q test
  from_passed zero passed = from_first parts rule entry q
  from_passed (suc test) passed =
      let next : test + 1 ≡ suc test = omega arith in
      subst (FromTest parts rule entry q) next
      (test_passes parts rule entry q test Yes (from_passed test (λ before h. passed before (omega arith))) (passed test (omega arith)) refl)

  pub first_fails : (test : ℕ) (a : Answer) → test < tests_by parts → PassesBelow test → AtOne parts rule entry q test a → (a ≡ Yes → ⊥)
      → AtTests parts (pools_by parts) rule entry q IsYes a
  first_fails test a less passed one never' = test_fails parts rule entry q test a less (from_passed test passed) one never'

  pub none_fails : (test : ℕ) → tests_by parts ≤ test → PassesBelow test → AtTests parts (pools_by parts) rule entry q IsYes Yes
  none_fails test end passed = all_pass parts rule entry q (tests_by parts) refl
      (from_passed (tests_by parts) (λ before h. passed before (within before (tests_by parts) test h end)))
    where
      within : (b n m : ℕ) → b < n → n ≤ m → b < m
      within b n m h k = omega arith

  -- up to the next own test
  pub goes_on : HasWidth parts → IsTestable parts q.left → IsTestable parts q.right → (test next : ℕ) (a : Answer) → PassesBelow test
      → AtOne parts rule entry q test a → a ≡ Yes → IsNextOwn parts (vars_of q.left q.right) test next → PassesBelow next
  goes_on has left right test next a passed one good step = passes_on parts has (vars_of q.left q.right) (λ t. AtOne parts rule entry q t Yes)
      (λ t. moves (own parts (vars_of q.left q.right) t) t
      (own_tells parts has (vars_of q.left q.right) (pools_by parts) t q.left left.variables (first_within q.left q.right))
      (own_tells parts has (vars_of q.left q.right) (pools_by parts) t q.right right.variables (second_within q.left q.right)))
      test next step passed (subst (AtOne parts rule entry q test) good one)
