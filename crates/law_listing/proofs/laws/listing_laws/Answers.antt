use Rattle.law_listing.proofs.InstanceFacts.{listing_is}
use Rattle.law_listing.proofs.Concluding.{schemas_listed, instances_listed, variables_listed}
use Rattle.law_listing.proofs.laws.listing_laws.Goals as goal

pub returns : goal.returns
returns c = record { schemas = schemas_listed; instances = instances_listed; variables = variables_listed; universe = listing_is }
