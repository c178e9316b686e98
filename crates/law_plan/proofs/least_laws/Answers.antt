-- Each law is proved by a lemma.
use Rattle.law_laws.proofs.Descents.{weighs_something}
use Rattle.law_laws.proofs.Renaming.{has_width}
use Rattle.law_laws.proofs.Enumeration.{has_least}
use Rattle.law_plan.proofs.Leasts.{killed_none, schema_decided, term_decided}
use Rattle.law_plan.proofs.least_laws.Goals as goal

pub returns : goal.returns
returns c = record {
  exists = λ parts pools well sort t t_in. let (u, l) = has_least parts pools (weighs_something parts well) sort t t_in in (u, record { sort = sort; least = l });
  killed = λ parts pools well. killed_none parts pools (has_width parts well);
  schema = schema_decided;
  instance = term_decided;
}
