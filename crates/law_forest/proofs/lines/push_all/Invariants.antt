use Rattle.std.proofs.Common.{◌≡◌, ◌++◌, drop}
use Rattle.law_forest.proofs.lines.push_all.Given as goal

abbrev pub invariant-loop-number : goal.invariant-loop-number
invariant-loop-number l = l.found ++ drop l.number-index l.numbers ≡ l.initial.found ++ l.numbers
