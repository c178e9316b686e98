use Rattle.std.proofs.Common.{◌≡◌, take, map}
use Rattle.law_listing.specs.Listing.{instances}
use Rattle.law_explore.proofs.explore.+instances.Given as goal

abbrev pub invariant-loop-arg : goal.invariant-loop-arg
invariant-loop-arg l = l.lists ≡ map (instances l.sig) (take l.arg-index l.arg-items)
