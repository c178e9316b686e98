use Rattle.std.proofs.Common.{◌≡◌}
use Rattle.law_listing.specs.Rows.{each_below}
use Rattle.law_listing.specs.Listing.{first_variable}
use Rattle.law_explore.proofs.schemas.first_variables.Given as goal

abbrev pub invariant-loop-number : goal.invariant-loop-number
invariant-loop-number l = l.found ≡ each_below l.number (λ i. first_variable l.sig (record { 0 = i }))
