use Rattle.law_draws.specs.Draws.{pools_by}
use Rattle.law_explore.specs.Refusals.{Breaks}
use Rattle.law_explore.specs.Values.{IsLacking}
use Rattle.law_testing.proofs.EvaluatorFacts.{ready_stays}
use Rattle.law_explore.proofs.Breaking.{handed_on, lacking_left, lacking_right, values_hold, values_differ}
use Rattle.law_explore.proofs.background.check_at.Goals as goal

pub returns-in_err-left-clause-breaks : goal.returns-in_err-left-clause-breaks
returns-in_err-left-clause-breaks c =
    handed_on c.args.tester.now.sig.now (IsLacking c.args.tester.now.sig.now c.args.equation.now.left c.args.test) (Breaks c.args.tester.now.sig.now (pools_by c.args.tester.now.sig.now) c.args.number c.args.equation.now c.args.test)
    c.from_residual.result _ (lacking_left c.args.tester.now.sig.now c.args.number c.args.test c.args.equation.now) c.from_residual.ensures.1 c.in_err-left.ensures.over

pub side-requires-2-clause-pools : goal.side-requires-2-clause-pools
side-requires-2-clause-pools c = ready_stays c.args.tester.now.sig.now c.args.evaluator.now c.side.new.evaluator c.args.tester.now.pools.now c.side.ensures.extends c.requires.pools

pub returns-in_err-right-clause-breaks : goal.returns-in_err-right-clause-breaks
returns-in_err-right-clause-breaks c =
    handed_on c.args.tester.now.sig.now (IsLacking c.args.tester.now.sig.now c.args.equation.now.right c.args.test) (Breaks c.args.tester.now.sig.now (pools_by c.args.tester.now.sig.now) c.args.number c.args.equation.now c.args.test)
    c.from_residual-in_err-right.result _
    (lacking_right c.args.tester.now.sig.now c.side.new.evaluator.bank c.args.number c.args.test c.args.equation.now c.in_ok-left.left c.in_ok-left.ensures.value)
    c.from_residual-in_err-right.ensures.1 c.in_err-right.ensures.over

pub returns-then-same-clause-holds : goal.returns-then-same-clause-holds
returns-then-same-clause-holds c =
    values_hold c.args.tester.now.sig.now c.side.new.evaluator.bank c.side-2.new.evaluator.bank c.args.test c.args.equation.now c.in_ok-left.left c.in_ok-right.right c.in_ok-left.ensures.value
    c.side-2.ensures.extends.grows c.in_ok-right.ensures.value (c.same.ensures.ids.0 c.if-same.true)

pub returns-else-same-clause-breaks : goal.returns-else-same-clause-breaks
returns-else-same-clause-breaks c =
    values_differ c.args.tester.now.sig.now c.side.new.evaluator.bank c.side-2.new.evaluator.bank c.args.number c.args.test c.args.equation.now c.in_ok-left.left c.in_ok-right.right c.in_ok-left.ensures.value
    c.side-2.ensures.extends.grows c.in_ok-right.ensures.value c.shared.ensures (λ same. let h = c.same.ensures.ids.1 same in let k = c.if-same.false in cc)
