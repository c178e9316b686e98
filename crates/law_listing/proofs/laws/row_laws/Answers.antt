use Rattle.law_listing.proofs.Concluding.{schemas_told, instances_told}
use Rattle.law_listing.proofs.laws.row_laws.Goals as goal

pub returns : goal.returns
returns c = record { schemas = schemas_told; instances = instances_told }
