use Rattle.std.proofs.Common.{◌≡◌, ◌-◌, length}
use Rattle.law_typing.specs.LineFaults.{some_too_low}
use Rattle.law_types.proofs.tail.some_too_low.Given as goal

abbrev pub invariant-loop-at : goal.invariant-loop-at
invariant-loop-at l = some_too_low l.text l.height l.at (length l.text.sorts - l.at) ≡ some_too_low l.text l.height 0 (length l.text.sorts)
