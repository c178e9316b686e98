-- Each law is proved by a lemma.
use Rattle.law_laws.proofs.Coverage.{covers}
use Rattle.law_laws.proofs.Enumeration.{least_exists, list_covers}
use Rattle.law_laws.proofs.coverage_laws.Goals as goal

pub returns : goal.returns
returns c = record { covers = covers; least = least_exists; in_budget = list_covers }
