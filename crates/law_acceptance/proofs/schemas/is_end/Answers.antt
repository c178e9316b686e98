use Rattle.law_acceptance.proofs.PlayingFacts.{end_held, same_held}
use Rattle.law_acceptance.proofs.schemas.is_end.Goals as goal
use Rattle.law_acceptance.proofs.schemas.is_end.Goals.{else-going-via-then-going+in_ok-next_instance+else-is_some, else-going-via-else-going}

pub next-requires-clause-held : goal.next-requires-clause-held
next-requires-clause-held c = elim c.else-going.branch [
  | else-going-via-then-going+in_ok-next_instance+else-is_some w ↦
      end_held c.args.bank.now w.next_instance.new.bank c.else-going.bank c.args.schemas.now w.next_instance.new.self c.else-going.schemas w.in_ok-next_instance.field-0 w.in_ok-next_instance.ensures.grows
      w.in_ok-next_instance.ensures.ok w.bank-is w.schemas-is c.requires.ready
  | else-going-via-else-going w ↦ same_held c.args.bank.now c.else-going.bank c.args.schemas.now c.else-going.schemas w.bank-is w.schemas-is c.requires.ready
]
