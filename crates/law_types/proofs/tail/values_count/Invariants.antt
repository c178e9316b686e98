use Rattle.std.proofs.Common.{◌≡◌, ◌+◌, ◌≤◌, drop}
use Rattle.law_typing.specs.LineFaults.{values_count}
use Rattle.law_types.proofs.tail.values_count.Given as goal

abbrev pub invariant-loop-line : goal.invariant-loop-line
invariant-loop-line l = (l.count + values_count (drop l.line-index l.lines) ≡ values_count l.lines) × (l.count ≤ l.line-index)
