use Rattle.std.proofs.Common.{◌≡◌}
use Rattle.law_listing.specs.Rows.{each_below}
use Rattle.law_explore.specs.Equations.{equation_at}
use Rattle.law_explore.proofs.laws.equations.Given as goal

abbrev pub invariant-loop-at : goal.invariant-loop-at
invariant-loop-at l = l.found ≡ each_below l.at (equation_at l.terms l.firsts)
