use Rattle.std.proofs.Common.{take}
use Rattle.law_types.specs.Valued.{AreNoted}
use Rattle.law_types.proofs.valued.note_all.Given as goal

abbrev pub invariant-loop-sort : goal.invariant-loop-sort
invariant-loop-sort l = AreNoted (take l.sort-index l.sorts) l.number l.initial.table.items l.table.items
