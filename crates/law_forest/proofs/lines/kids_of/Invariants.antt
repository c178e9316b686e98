use Rattle.std.proofs.Common.{◌≡◌, ◌++◌}
use Rattle.law_checking.specs.Lines.{kids_of}
use Rattle.law_forest.proofs.lines.kids_of.Given as goal

abbrev pub decreases-loop-owed : goal.decreases-loop-owed
decreases-loop-owed l = l.owed

abbrev pub invariant-loop-owed : goal.invariant-loop-owed
invariant-loop-owed l = l.kids ++ kids_of l.part l.owed l.left ≡ kids_of l.part l.count l.lines
