use Rattle.law_listing.proofs.Concluding.{later_spreads, later_lives}
use Rattle.law_listing.proofs.laws.later_laws.Goals as goal

pub returns : goal.returns
returns c = record { spread = later_spreads; live = later_lives }
