use Rattle.std.proofs.Common.{length, ◌≤◌}
use Rattle.law_listing.specs.Picks.{AreFits}
use Rattle.law_listing.proofs.PickFacts.{BeginsFrom}
use Rattle.law_agenda.proofs.rows.+first_from.Given as goal

abbrev pub decreases-first_from : goal.decreases-first_from
decreases-first_from l = length l.choices.now

abbrev pub invariant-loop-own : goal.invariant-loop-own
invariant-loop-own l = (l.from ≤ l.own) × (AreFits l.choices l.fits → BeginsFrom l.choices l.weight l.from l.own)
