use Rattle.std.proofs.Common.{◌≡◌, length, map, take}
use Rattle.law_agenda.specs.Shelves.{column}
use Rattle.law_agenda.proofs.shelves.sizes.Given as goal

abbrev pub invariant-loop-level : goal.invariant-loop-level
invariant-loop-level l = l.found ≡ map length (column (take l.level-index l.shelf) l.sort)
