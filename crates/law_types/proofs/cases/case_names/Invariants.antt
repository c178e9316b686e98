use Rattle.std.proofs.Common.{◌≡◌, ◌++◌, drop}
use Rattle.law_typing.specs.LineFaults.{case_names}
use Rattle.law_types.proofs.cases.case_names.Given as goal

abbrev pub invariant-loop-line : goal.invariant-loop-line
invariant-loop-line l = l.names ++ case_names (drop l.line-index l.lines) ≡ case_names l.lines
