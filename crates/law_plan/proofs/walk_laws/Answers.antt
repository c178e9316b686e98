-- Each law is proved by a lemma.
use Rattle.law_laws.proofs.Descents.{weighs_something}
use Rattle.law_laws.proofs.Renaming.{has_width}
use Rattle.law_plan.proofs.Certified.{goes_in_order}
use Rattle.law_plan.proofs.Walked.{walked, walked_first, walked_plan}
use Rattle.law_plan.proofs.walk_laws.Goals as goal

pub returns : goal.returns
returns c = record {
  followed = λ parts pools well xs block w. (walked parts pools (weighs_something parts well) (has_width parts well) w).followed;
  first = λ parts pools well. walked_first parts pools (weighs_something parts well) (has_width parts well);
  goes = λ parts pools well. goes_in_order parts (weighs_something parts well) well.settings.size.0 pools (has_width parts well);
  plan = λ parts pools well. walked_plan parts pools (weighs_something parts well) (has_width parts well);
}
