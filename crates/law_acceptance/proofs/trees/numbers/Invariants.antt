use Rattle.law_acceptance.proofs.CountingFacts.{AreNumbers}
use Rattle.law_acceptance.proofs.trees.numbers.Given as goal

abbrev pub invariant-loop-test : goal.invariant-loop-test
invariant-loop-test l = AreNumbers l.tests l.test
