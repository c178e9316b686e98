use Rattle.std.proofs.Common.{◌≡◌, ◌++◌, length}
use Rattle.law_checking.specs.Lines.{parts_of, taken, behind}
use Rattle.law_forest.proofs.lines.first_tree.Given as goal

abbrev pub decreases-loop-owed : goal.decreases-loop-owed
decreases-loop-owed l = length l.left

abbrev pub invariant-loop-owed : goal.invariant-loop-owed
invariant-loop-owed l = record {
  parts : l.found ++ parts_of l.part (taken l.owed l.left) ≡ parts_of l.part (taken 1 l.lines);
  behind : behind l.owed l.left ≡ behind 1 l.lines;
}
