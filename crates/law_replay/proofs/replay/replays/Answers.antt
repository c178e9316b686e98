use Rattle.std.proofs.Common.{Option, option_map, arith, subst}
use Rattle.law_replay.specs.declared.term.Term.{Term}
use Rattle.law_chains.specs.Replaying.{IsStepped}
use Rattle.law_replay.specs.Terms.{meaning}
use Rattle.law_chains.proofs.Stepping.{went_on, nowhere, arrived}
use Rattle.law_replay.proofs.replay.replays.Goals as goal

pub returns-in_default : goal.returns-in_default
returns-in_default c = (
  λ e. cc,
  λ h. absurd (nowhere c.args.sig.now c.args.known.now c.args.steps.now c.args.from.now _ _ _ c.loop-next-test.true c.next-item.is
      (subst (λ (f : Option Term). IsStepped c.args.sig.now c.args.known.now c.next-item.result (meaning c.loop-next.current) (option_map meaning f)) c.in_default.is c.in_ok-found.ensures)
      c.loop-next.invariant c.args.to.now h),
)

pub loop-next-preserved : goal.loop-next-preserved
loop-next-preserved c = went_on c.args.sig.now c.args.known.now c.args.steps.now c.args.from.now _ _ _ _ c.loop-next-test.true c.next-item.is
    (subst (λ (f : Option Term). IsStepped c.args.sig.now c.args.known.now c.next-item.result (meaning c.loop-next.current) (option_map meaning f)) c.in-Some.is c.in_ok-found.ensures)
    c.loop-next.invariant

pub returns : goal.returns
returns c =
    let a = arrived c.args.sig.now c.args.known.now c.args.steps.now c.args.from.now (meaning c.loop-next.current) c.args.to.now c.loop-next.next-index
    (omega (arith, c.loop-next-test.false, c.loop-next.auto.next-index-end)) c.loop-next.invariant in
    (λ e. a.1 (c.is_tree.ensures.0 e), λ h. c.is_tree.ensures.1 (a.0 h))
