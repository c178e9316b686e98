use Rattle.std.proofs.Common.{take}
use Rattle.law_typing.specs.Table.{Finds}
use Rattle.law_check.proofs.names.symbol_table.Given as goal

abbrev pub invariant-loop-at : goal.invariant-loop-at
invariant-loop-at l = Finds (take l.at l.sig.symbol_names) l.table.entries
