use Rattle.std.proofs.Common.{◌≡◌, ◌++◌, drop}
use Rattle.law_listing.specs.Rows.{crossed}
use Rattle.law_listing.specs.Listing.{of_sort}
use Rattle.law_explore.proofs.schemas.push_crossed_of.Given as goal

abbrev pub invariant-loop-term : goal.invariant-loop-term
invariant-loop-term l =
    l.found ++ crossed (of_sort l.sig l.sort (drop l.term-index l.terms)) l.rows ≡ l.initial.found ++ crossed (of_sort l.sig l.sort l.terms) l.rows
