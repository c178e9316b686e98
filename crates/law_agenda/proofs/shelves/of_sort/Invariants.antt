use Rattle.std.proofs.Common.{◌≡◌, ◌++◌, drop}
use Rattle.std.specs.List.{filter}
use Rattle.law_agenda.specs.Shelves.{is_of_sort}
use Rattle.law_agenda.proofs.shelves.of_sort.Given as goal

abbrev pub invariant-loop-spread : goal.invariant-loop-spread
invariant-loop-spread l = l.found ++ filter (is_of_sort l.sig l.sort) (drop l.spread-index l.level) ≡ filter (is_of_sort l.sig l.sort) l.level
