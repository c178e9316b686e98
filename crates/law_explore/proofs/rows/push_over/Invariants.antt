use Rattle.std.proofs.Common.{◌≡◌, ◌++◌, take}
use Rattle.law_listing.specs.Listing.{over_each}
use Rattle.law_explore.proofs.rows.push_over.Given as goal

abbrev pub invariant-loop-row : goal.invariant-loop-row
invariant-loop-row l = l.found ≡ l.initial.found ++ over_each l.head (take l.row-index l.rows)
