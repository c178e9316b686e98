use Rattle.std.proofs.Common.{take}
use Rattle.law_checking.specs.Once.{HaveSame}
use Rattle.law_forest.proofs.once.set_of.Given as goal

abbrev pub invariant-loop-number : goal.invariant-loop-number
invariant-loop-number l = HaveSame l.set.keys (take l.number-index l.numbers)
