use Rattle.std.proofs.Common.{◌≡◌, ◌⊎◌, ◌<◌, ◌-◌, slice_index_or, true, false, ℕ}
use Rattle.law_schema.proofs.walk.is_sum.Given as goal

abbrev pub invariant-loop-own : goal.invariant-loop-own
invariant-loop-own l = (n : ℕ) → n < l.own → (slice_index_or l.counts n 0 ≡ 0) ⊎ (slice_index_or l.known (l.weight - n) true ≡ false)
