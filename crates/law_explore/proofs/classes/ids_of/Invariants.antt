use Rattle.law_testing.specs.Evaluators.{Extends}
use Rattle.law_explore.specs.Values.{AreIds}
use Rattle.law_explore.proofs.classes.ids_of.Given as goal

abbrev pub invariant-loop-test : goal.invariant-loop-test
invariant-loop-test l = record {
  extends : Extends l.initial.evaluator l.evaluator;
  ids : AreIds l.tester.sig.now l.evaluator.bank l.term l.test l.ids.items;
}
