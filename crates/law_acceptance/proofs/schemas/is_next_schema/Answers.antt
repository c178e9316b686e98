use Rattle.std.proofs.Common.{◌∙◌}
use Rattle.law_acceptance.proofs.PlayingFacts.{if_any, no_schema, spread_ready, kill_ready}
use Rattle.law_acceptance.proofs.schemas.is_next_schema.Goals as goal
use Rattle.law_acceptance.proofs.schemas.is_next_schema.Goals.{then-spread+in_ok-spread, else-spread}

pub returns-in_default-clause-ready : goal.returns-in_default-clause-ready
returns-in_default-clause-ready c =
    no_schema c.args.bank.now c.next.new.bank c.args.schemas.now c.next.new.self c.in_ok-term.field-0 c.in_ok-term.ensures.grows c.in_ok-term.ensures.ok c.in_default.is c.requires

pub returns-clause-ready : goal.returns-clause-ready
returns-clause-ready c =
    if_any _ c.is_term.result (elim c.if-spread.branch [
      | then-spread+in_ok-spread w ↦
          spread_ready c.args.bank.now c.next.new.bank c.args.schemas.now c.next.new.self c.if-spread.schemas c.in_ok-term.field-0 c.in-Some.term c.in_ok-term.ensures.grows c.in_ok-term.ensures.ok c.in-Some.is
          c.in_ok-term.ensures.held (w.schemas-is ∙ w.in_ok-spread.ensures.ok) c.requires
      | else-spread w ↦
          kill_ready c.args.bank.now c.next.new.bank c.args.schemas.now c.next.new.self c.if-spread.schemas c.in_ok-term.field-0 c.in-Some.term c.in_ok-term.ensures.grows c.in_ok-term.ensures.ok c.in-Some.is
          (w.schemas-is ∙ w.kill.ensures) c.requires
    ])
