use Rattle.std.proofs.Common.{◌≡◌, ◌++◌, drop}
use Rattle.law_listing.specs.Rows.{crossed}
use Rattle.law_explore.proofs.rows.push_crossed.Given as goal

abbrev pub invariant-loop-term : goal.invariant-loop-term
invariant-loop-term l = l.found ++ crossed (drop l.term-index l.terms) l.rows ≡ l.initial.found ++ crossed l.terms l.rows
