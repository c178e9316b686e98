use Rattle.std.proofs.Common.{◌≡◌, length, slice_index_or, true, false, ℕ}
use Rattle.law_listing.specs.Picks.{NoSum}
use Rattle.law_agenda.proofs.rows.sums.Given as goal

abbrev pub invariant-loop-total : goal.invariant-loop-total
invariant-loop-total l = (length l.found ≡ l.total) × ((n : ℕ) → slice_index_or l.found n true ≡ false → NoSum l.counts l.known n)
