use Rattle.std.proofs.Common.{◌≡◌, ◌++◌, [], drop, if◌then◌else◌}
use Rattle.law_checking.specs.Lines.{is_upper, upper_tests}
use Rattle.law_forest.proofs.lines.upper_tests.Given as goal

abbrev pub invariant-loop-line : goal.invariant-loop-line
invariant-loop-line l =
    l.found ++ ((if is_upper (drop l.line-index l.lines) then l.waiting else []) ++ upper_tests (drop l.line-index l.lines)) ≡ upper_tests l.lines
