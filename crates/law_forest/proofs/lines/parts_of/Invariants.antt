use Rattle.std.proofs.Common.{◌≡◌, ◌++◌, drop}
use Rattle.law_checking.specs.Lines.{parts_of}
use Rattle.law_forest.proofs.lines.parts_of.Given as goal

abbrev pub invariant-loop-line : goal.invariant-loop-line
invariant-loop-line l = l.found ++ parts_of l.part (drop l.line-index l.lines) ≡ parts_of l.part l.lines
