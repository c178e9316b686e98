use Rattle.std.proofs.Common.{◌≡◌, length, slice_index_or, true, false, ℕ}
use Rattle.law_listing.specs.Picks.{NoSum}
use Rattle.law_schema.proofs.walk.met_by_one_more.Given as goal

abbrev pub invariant-loop-total : goal.invariant-loop-total
invariant-loop-total l = (length l.met ≡ l.total) × ((n : ℕ) → slice_index_or l.met n true ≡ false → NoSum l.counts l.known n)
