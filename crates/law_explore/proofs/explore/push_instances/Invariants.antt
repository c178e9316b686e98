use Rattle.std.proofs.Common.{◌≡◌, ◌++◌, drop}
use Rattle.std.specs.List.{flat_map}
use Rattle.law_listing.specs.Listing.{instances}
use Rattle.law_explore.proofs.explore.push_instances.Given as goal

abbrev pub invariant-loop-schema : goal.invariant-loop-schema
invariant-loop-schema l =
    l.found ++ flat_map (instances l.sig) (drop l.schema-index l.schemas) ≡ l.initial.found ++ flat_map (instances l.sig) l.schemas
