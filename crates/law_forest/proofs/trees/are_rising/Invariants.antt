use Rattle.std.proofs.Common.{◌≤◌}
use Rattle.law_checking.proofs.Treeing.{RisingTo}
use Rattle.law_forest.proofs.trees.are_rising.Given as goal

abbrev pub invariant-loop-at : goal.invariant-loop-at
invariant-loop-at l = record {
  some : 1 ≤ l.at;
  to : RisingTo l.numbers l.at;
}
