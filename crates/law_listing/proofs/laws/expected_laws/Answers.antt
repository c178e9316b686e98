use Rattle.law_listing.proofs.Concluding.{expected}
use Rattle.law_listing.proofs.laws.expected_laws.Goals as goal

pub returns : goal.returns
returns g c = λ parts. expected parts g.P.Property.holds
