use Rattle.std.proofs.Common.{◌≡◌, ◌++◌, drop}
use Rattle.std.specs.List.{flat_map}
use Rattle.law_listing.specs.Listing.{instances}
use Rattle.law_explore.proofs.explore.listing.Given as goal

abbrev pub invariant-loop-schemas : goal.invariant-loop-schemas
invariant-loop-schemas l =
    l.found ++ flat_map (λ schemas. flat_map (instances l.sig) schemas) (drop l.schemas-index l.schemas-items)
    ≡ flat_map (λ schemas. flat_map (instances l.sig) schemas) l.schemas-items
