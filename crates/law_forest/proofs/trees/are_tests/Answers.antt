use Rattle.std.proofs.Common.{◌<◌, refl, subst, slice_index_or, arith}
use Rattle.law_laws.proofs.ListFacts.{each_map}
use Rattle.law_draws.specs.Draws.{pools_by}
use Rattle.law_valid.specs.Trees.{IsTest}
use Rattle.law_testing.specs.Values.{tests_by}
use Rattle.law_checking.proofs.Onces.{reread, not_each, each_all_of}
use Rattle.law_forest.proofs.trees.are_tests.Goals as goal

pub returns-then-test-count : goal.returns-then-test-count
returns-then-test-count c = λ bank pools. (
  λ e. let h : ⊥ = cc in absurd h,
  λ all. absurd (not_each (IsTest c.args.tester.now.sig.now (pools_by c.args.tester.now.sig.now)) c.args.tests.now c.loop-test.test-index
      (slice_index_or c.args.tests.now c.loop-test.test-index 0) c.loop-test-test.true (reread c.args.tests.now c.loop-test.test-index 0 c.loop-test-test.true)
      (λ own. let less : slice_index_or c.args.tests.now c.loop-test.test-index 0 < tests_by c.args.tester.now.sig.now = own in
      let same = c.tests-count.ensures bank pools in omega (arith, less, same, c.if-test-count.true)) all),
)

pub returns : goal.returns
returns c = λ bank pools. (
  λ e. each_map (λ t. t < c.tests-count.result) (IsTest c.args.tester.now.sig.now (pools_by c.args.tester.now.sig.now)) (λ t h. subst (λ k. t < k) (c.tests-count.ensures bank pools) h)
      c.args.tests.now (each_all_of (λ t. t < c.tests-count.result) c.args.tests.now c.loop-test.test-index c.loop-test-test.false c.loop-test.invariant),
  λ all. refl,
)
