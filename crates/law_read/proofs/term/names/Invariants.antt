use Rattle.std.proofs.Common.{◌≤◌, length}
use Rattle.law_lines.specs.Rows.{NamesSoFar}
use Rattle.law_read.proofs.term.names.Given as goal

abbrev pub invariant-loop-found : goal.invariant-loop-found
invariant-loop-found l = record {
  shorter : length l.line.left ≤ length l.initial.line.left;
  so_far : NamesSoFar l.nodes l.row l.ending l.initial.line.left l.line.left l.found;
}

abbrev pub decreases-loop-found : goal.decreases-loop-found
decreases-loop-found l = length l.line.left
