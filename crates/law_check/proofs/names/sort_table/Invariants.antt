use Rattle.std.proofs.Common.{take}
use Rattle.law_typing.specs.Table.{Finds}
use Rattle.law_check.proofs.names.sort_table.Given as goal

abbrev pub invariant-loop-at : goal.invariant-loop-at
invariant-loop-at l = Finds (take l.at l.sig.sort_names) l.table.entries
