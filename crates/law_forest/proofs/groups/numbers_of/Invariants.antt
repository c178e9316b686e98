use Rattle.std.proofs.Common.{take}
use Rattle.law_checking.specs.Planted.{AreNumbers, IsOfSort}
use Rattle.law_forest.proofs.groups.numbers_of.Given as goal

abbrev pub invariant-loop-at : goal.invariant-loop-at
invariant-loop-at l = AreNumbers (take l.at l.terms) (IsOfSort l.sig l.sort) l.found
