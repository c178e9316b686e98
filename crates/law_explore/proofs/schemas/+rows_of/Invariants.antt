use Rattle.std.proofs.Common.{◌≡◌, ◌-◌, length}
use Rattle.law_listing.specs.Rows.{each_below, crossed, rows_of}
use Rattle.law_listing.specs.Listing.{of_weight}
use Rattle.law_explore.proofs.schemas.+rows_of.Given as goal

abbrev pub decreases-rows_of : goal.decreases-rows_of
decreases-rows_of l = length l.sorts.now

abbrev pub invariant-loop-lighter : goal.invariant-loop-lighter
invariant-loop-lighter l =
    l.found ≡ each_below l.lighter (λ k. crossed (of_weight l.sig l.levels k l.first) (rows_of (of_weight l.sig l.levels) l.rest (l.weight - k)))
