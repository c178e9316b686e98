use Rattle.std.proofs.Common.{◌≡◌, ◌≤◌, length}
use Rattle.law_listing.specs.Picks.{AreFits}
use Rattle.law_listing.proofs.PickFacts.{BeginsFrom}
use Rattle.law_schema.proofs.walk.+set_first.Given as goal

abbrev pub decreases-set_first : goal.decreases-set_first
decreases-set_first l = length l.choices.now

abbrev pub invariant-loop-own : goal.invariant-loop-own
invariant-loop-own l = (l.from ≤ l.own) × (length l.behind ≡ length l.rest) × (AreFits l.choices l.fits → BeginsFrom l.choices l.weight l.from l.own)
