use Rattle.std.proofs.Common.{◌≤◌, ◌<◌, ℕ}
use Rattle.law_schema.specs.Rules.{HasNone}
use Rattle.law_schema.proofs.rules.first_sort.Given as goal

abbrev pub invariant-loop-number : goal.invariant-loop-number
invariant-loop-number l = (l.from ≤ l.number) × ((n : ℕ) → l.from ≤ n → n < l.number → HasNone l.rules n)
