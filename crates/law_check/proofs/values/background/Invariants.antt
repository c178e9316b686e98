use Rattle.law_testing.specs.Evaluators.{Extends}
use Rattle.law_check.proofs.Agreeing.{FromEquation}
use Rattle.law_check.proofs.values.background.Given as goal

abbrev pub invariant-loop-q : goal.invariant-loop-q
invariant-loop-q l = record {
  extends : Extends l.initial.evaluator l.evaluator;
  from : FromEquation l.tester.sig.now l.q-items l.q-index;
}
