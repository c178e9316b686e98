-- Each law is proved by a lemma.
use Rattle.law_valid.proofs.Covered.{covers}
use Rattle.law_valid.proofs.laws.coverage_laws.Goals as goal

pub returns : goal.returns
returns c = record { covers = covers }
