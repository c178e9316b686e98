use Rattle.std.proofs.Common.{◌+◌, ap, ◌∙◌}
use Rattle.law_sig.specs.declared.parts.Settings.{Settings}
use Rattle.law_draws.specs.Draws.{pools_by}
use Rattle.law_explore.specs.Refusals.{Breaks, IsFirstAnswer, HasBrokenBackground}
use Rattle.law_testing.specs.Values.{tests_by}
use Rattle.law_testing.proofs.EvaluatorFacts.{ready_stays}
use Rattle.law_explore.proofs.Breaking.{handed_on, background_breaks}
use Rattle.law_explore.proofs.background.check_background.Goals as goal

pub check_equation-requires-clause-pools : goal.check_equation-requires-clause-pools
check_equation-requires-clause-pools c = ready_stays c.args.tester.now.sig.now c.args.evaluator.now c.loop-at.evaluator c.args.tester.now.pools.now c.loop-at.invariant.extends c.requires

pub returns-in_err-check_equation-clause-breaks : goal.returns-in_err-check_equation-clause-breaks
returns-in_err-check_equation-clause-breaks c =
    handed_on c.args.tester.now.sig.now
    (IsFirstAnswer (Breaks c.args.tester.now.sig.now (pools_by c.args.tester.now.sig.now) (c.loop-at.at + 1) c.index-background-at.result) (tests_by c.args.tester.now.sig.now))
    (HasBrokenBackground c.args.tester.now.sig.now (pools_by c.args.tester.now.sig.now)) c.from_residual.result _
    (background_breaks c.args.tester.now.sig.now c.as_slice-background.result.now c.loop-at.at c.index-background-at.result
    (c.as_slice-background.ensures ∙ ap (λ (s : Settings). s.background) c.settings.ensures.settings) c.loop-at-test.true c.index-background-at.is c.loop-at.invariant.holds)
    c.from_residual.ensures.1 c.in_err-check_equation.ensures.breaks
