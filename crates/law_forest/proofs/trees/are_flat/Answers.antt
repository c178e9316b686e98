use Rattle.std.proofs.Common.{refl, slice_index_or}
use Rattle.law_sig.specs.Tests.{IsFlat}
use Rattle.law_laws.proofs.ListFacts.{each_map}
use Rattle.law_draws.specs.Draws.{pools_by}
use Rattle.law_valid.specs.Trees.{IsTest, IsFlatTest}
use Rattle.law_checking.proofs.Onces.{reread, not_each, each_next, each_all_of}
use Rattle.law_checking.proofs.Treeing.{each_two}
use Rattle.law_forest.proofs.trees.are_flat.Goals as goal

pub returns-then-not-are_tests : goal.returns-then-not-are_tests
returns-then-not-are_tests c = λ bank pools. (
  λ e. let h : ⊥ = cc in absurd h,
  λ all. let h = (c.are_tests.ensures bank pools).1 (each_map (IsFlatTest c.args.tester.now.sig.now (pools_by c.args.tester.now.sig.now))
      (IsTest c.args.tester.now.sig.now (pools_by c.args.tester.now.sig.now)) (λ t h. h.0) c.args.tests.now all) in
      let k = c.if-not-are_tests.true in cc,
)

pub returns-then-not-is_flat : goal.returns-then-not-is_flat
returns-then-not-is_flat c = λ bank pools. (
  λ e. let h : ⊥ = cc in absurd h,
  λ all. absurd (not_each (IsFlatTest c.args.tester.now.sig.now (pools_by c.args.tester.now.sig.now)) c.args.tests.now c.loop-test.test-index
      (slice_index_or c.args.tests.now c.loop-test.test-index 0) c.loop-test-test.true (reread c.args.tests.now c.loop-test.test-index 0 c.loop-test-test.true)
      (λ own. let h = (c.is_flat.ensures c.args.tester.now.sig.now pools.fits).1 own.1 in let k = c.if-not-is_flat.true in cc) all),
)

pub loop-test-preserved : goal.loop-test-preserved
loop-test-preserved c = λ fits. each_next (IsFlat c.args.tester.now.sig.now) c.args.tests.now c.loop-test.test-index (slice_index_or c.args.tests.now c.loop-test.test-index 0) c.loop-test-test.true
    (reread c.args.tests.now c.loop-test.test-index 0 c.loop-test-test.true) (c.loop-test.invariant fits) ((c.is_flat.ensures c.args.tester.now.sig.now fits).0 c.if-not-is_flat.false)

pub returns : goal.returns
returns c = λ bank pools. (
  λ e. each_two (IsTest c.args.tester.now.sig.now (pools_by c.args.tester.now.sig.now)) (IsFlat c.args.tester.now.sig.now) c.args.tests.now
      ((c.are_tests.ensures bank pools).0 c.if-not-are_tests.false)
      (each_all_of (IsFlat c.args.tester.now.sig.now) c.args.tests.now c.loop-test.test-index c.loop-test-test.false (c.loop-test.invariant pools.fits)),
  λ all. refl,
)
