use Rattle.std.proofs.Common.{◌≡◌, ◌+◌, length}
use Rattle.law_listing.specs.Listing.{levels_to}
use Rattle.law_explore.proofs.schemas.levels.Given as goal

abbrev pub invariant-loop-made : goal.invariant-loop-made
invariant-loop-made l = (l.levels ≡ levels_to l.sig l._made) × (length l.levels ≡ l._made + 1)
