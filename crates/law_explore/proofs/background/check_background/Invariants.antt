use Rattle.std.proofs.Common.{take}
use Rattle.law_sig.specs.Lists.{Each}
use Rattle.law_sig.specs.Tests.{Agrees}
use Rattle.law_sig.specs.declared.parts.Equation.{Equation}
use Rattle.law_testing.specs.Evaluators.{Extends}
use Rattle.law_draws.specs.Draws.{pools_by}
use Rattle.law_explore.proofs.background.check_background.Given as goal

abbrev pub invariant-loop-at : goal.invariant-loop-at
invariant-loop-at l = record {
  extends : Extends l.initial.evaluator l.evaluator;
  holds : Each (λ (e : Equation). Agrees l.tester.sig.now (pools_by l.tester.sig.now) e.left e.right) (take l.at l.background);
}
