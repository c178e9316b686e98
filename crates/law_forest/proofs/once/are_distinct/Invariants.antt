use Rattle.std.proofs.Common.{take}
use Rattle.law_sig.specs.Lists.{AreDistinct}
use Rattle.law_checking.specs.Once.{HaveSame}
use Rattle.law_forest.proofs.once.are_distinct.Given as goal

abbrev pub invariant-loop-number : goal.invariant-loop-number
invariant-loop-number l = record {
  same : HaveSame l.set.keys (take l.number-index l.numbers);
  distinct : AreDistinct (take l.number-index l.numbers);
}
