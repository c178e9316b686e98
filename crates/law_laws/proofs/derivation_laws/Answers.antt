-- Each law is proved by a lemma.
use Rattle.law_laws.proofs.Derivation.{derivable_sort, derivable_instance, derivable_cut}
use Rattle.law_laws.proofs.Chains.{chain_derivable}
use Rattle.law_laws.proofs.derivation_laws.Goals as goal

pub returns : goal.returns
returns c = record {
  sorts = λ parts equations sorted s t d. derivable_sort parts equations sorted d;
  instances = λ parts equations σ keeps s t d. derivable_instance parts equations σ keeps d;
  derived = λ parts base equations have s t d. derivable_cut parts base equations have d;
  chains = λ parts equations steps s t r. chain_derivable parts equations r;
}
