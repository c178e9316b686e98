use Rattle.std.proofs.Common.{take}
use Rattle.law_value.proofs.ReadFacts.{IsRead}
use Rattle.law_value.proofs.bank.ValueBank.+read_value.Given as goal

abbrev pub invariant-loop-arg : goal.invariant-loop-arg
invariant-loop-arg l = IsRead l.initial.self l.self l.fields.items (take l.arg-index l.arg-items)
