use Rattle.std.proofs.Common.{ℕ, ◌<◌, ◌-◌}
use Rattle.law_own.specs.Own.{IsOwn, vars_of}
use Rattle.law_testing.specs.Evaluators.{Extends}
use Rattle.law_explore.specs.Values.{HoldsAt}
use Rattle.law_explore.proofs.background.check_equation.Given as goal

abbrev pub invariant-loop-test : goal.invariant-loop-test
invariant-loop-test l = record {
  extends : Extends l.initial.evaluator l.evaluator;
  own : IsOwn l.tester.sig.now (vars_of l.equation.left l.equation.right) l.test;
  holds : (test : ℕ) → test < l.test → HoldsAt l.tester.sig.now l.equation test;
}

abbrev pub decreases-loop-test : goal.decreases-loop-test
decreases-loop-test l = l.tests - l.test
