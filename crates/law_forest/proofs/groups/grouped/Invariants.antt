use Rattle.std.proofs.Common.{take}
use Rattle.indexmap.specs.IndexMap.{get}
use Rattle.law_checking.specs.Planted.{AreGroups, same_number}
use Rattle.law_forest.proofs.groups.grouped.Given as goal

abbrev pub invariant-loop-at : goal.invariant-loop-at
invariant-loop-at l = AreGroups l.spreads (take l.at l.lives) (get same_number l.groups)
