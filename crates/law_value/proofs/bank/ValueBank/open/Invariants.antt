use Rattle.law_ids.specs.Values.{tree_of}
use Rattle.law_value.specs.Writing.{pieces}
use Rattle.law_value.proofs.WriteFacts.{IsOpening}
use Rattle.law_value.proofs.bank.ValueBank.open.Given as goal

abbrev pub invariant-loop-at : goal.invariant-loop-at
invariant-loop-at l = IsOpening l.self (tree_of l.self l.id) l.at l.count (pieces l.self l.fn.left.items) l.left.items
