use Rattle.std.proofs.Common.{◌≡◌, drop}
use Rattle.law_checking.specs.Lines.{is_upper}
use Rattle.law_forest.proofs.lines.is_upper.Given as goal

abbrev pub invariant-loop-line : goal.invariant-loop-line
invariant-loop-line l = is_upper (drop l.line-index l.lines) ≡ is_upper l.lines
