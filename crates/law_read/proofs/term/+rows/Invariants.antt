use Rattle.std.proofs.Common.{◌≤◌, ◌*◌, ◌+◌, length}
use Rattle.law_lines.specs.Rows.{RowSoFar}
use Rattle.law_read.proofs.term.+rows.Given as goal

abbrev pub decreases-args : goal.decreases-args
decreases-args l = 3 * length l.line.now.left + 2

abbrev pub decreases-item : goal.decreases-item
decreases-item l = 3 * length l.line.now.left + 1

abbrev pub decreases-bracket : goal.decreases-bracket
decreases-bracket l = 3 * length l.line.now.left

abbrev pub invariant-args-loop-found : goal.invariant-args-loop-found
invariant-args-loop-found l = record {
  low : l.total ≤ 4096;
  shorter : length l.line.left ≤ length l.initial.line.left;
  so_far : RowSoFar l.nodes l.row l.level l.ending l.initial.line.left l.line.left l.found l.total;
}

abbrev pub decreases-args-loop-found : goal.decreases-args-loop-found
decreases-args-loop-found l = length l.line.left
