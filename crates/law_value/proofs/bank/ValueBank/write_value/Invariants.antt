use Rattle.law_ids.specs.Tops.{tops}
use Rattle.law_ids.specs.Values.{tree_of}
use Rattle.law_value.specs.Writing.{pieces, steps_of, IsWriting}
use Rattle.law_value.proofs.bank.ValueBank.write_value.Given as goal

abbrev pub invariant-loop-part : goal.invariant-loop-part
invariant-loop-part l = IsWriting l.self (tree_of l.self l.fn.id) l.left.items (tops (λ t. t) l.done.items)

abbrev pub decreases-loop-part : goal.decreases-loop-part
decreases-loop-part l = steps_of (pieces l.self l.left.items)
