use Rattle.std.proofs.Common.{◌≡◌, ◌≢◌, length, slice_index_or, true, false, ℕ}
use Rattle.law_schema.proofs.walk.met_by_nothing.Given as goal

abbrev pub invariant-loop-total : goal.invariant-loop-total
invariant-loop-total l = (length l.met ≡ l.total) × ((n : ℕ) → slice_index_or l.met n true ≡ false → n ≢ 0)
