use Rattle.law_term.proofs.Tabling.{IsPlacing}
use Rattle.law_term.proofs.table.places_of.Given as goal

abbrev pub invariant-loop-at : goal.invariant-loop-at
invariant-loop-at l = IsPlacing l.variables l.at l.counts.entries l.places.entries
