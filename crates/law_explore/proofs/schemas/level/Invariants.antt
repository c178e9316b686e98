use Rattle.std.proofs.Common.{◌≡◌, ◌++◌, length}
use Rattle.law_listing.specs.Rows.{each_below}
use Rattle.law_listing.specs.Listing.{applications, of_weight}
use Rattle.law_explore.proofs.schemas.level.Given as goal

abbrev pub invariant-loop-number : goal.invariant-loop-number
invariant-loop-number l =
    l.found ≡ l.initial.found ++ each_below l.number (λ i. applications l.sig (of_weight l.sig l.levels) (length l.levels) (record { 0 = i }))
