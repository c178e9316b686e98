use Rattle.std.proofs.Common.{◌∙◌}
use Rattle.law_acceptance.proofs.PlayingFacts.{if_any, no_instance, live_ready, moved_ready}
use Rattle.law_acceptance.proofs.schemas.is_next_term.Goals as goal
use Rattle.law_acceptance.proofs.schemas.is_next_term.Goals.{then-live+in_ok-admit, else-live}

pub returns-in_default-clause-ready : goal.returns-in_default-clause-ready
returns-in_default-clause-ready c =
    no_instance c.args.bank.now c.next_instance.new.bank c.args.schemas.now c.next_instance.new.self c.in_ok-next.field-0 c.in_ok-next.ensures.grows c.in_ok-next.ensures.ok c.in_default.is c.requires.ready

pub returns-clause-ready : goal.returns-clause-ready
returns-clause-ready c =
    if_any _ c.is_term.result (elim c.if-live.branch [
      | then-live+in_ok-admit w ↦
          live_ready c.args.bank.now c.next_instance.new.bank c.args.schemas.now c.next_instance.new.self c.if-live.schemas c.in_ok-next.field-0 c.in-Some.next c.in_ok-next.ensures.grows c.in_ok-next.ensures.ok
          c.in-Some.is c.in_ok-next.ensures.held (w.schemas-is ∙ w.in_ok-admit.ensures.ok) c.requires.ready
      | else-live w ↦
          moved_ready c.args.bank.now c.next_instance.new.bank c.args.schemas.now c.next_instance.new.self c.if-live.schemas c.in_ok-next.field-0 c.in-Some.next c.in_ok-next.ensures.grows c.in_ok-next.ensures.ok
          c.in-Some.is w.schemas-is c.requires.ready
    ])
