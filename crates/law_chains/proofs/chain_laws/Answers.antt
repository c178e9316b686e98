-- Each law is proved by a lemma.
use Rattle.law_chains.proofs.Stepping.{one_step}
use Rattle.law_chains.proofs.Binding.{binds_computed}
use Rattle.law_chains.proofs.chain_laws.Goals as goal

pub returns : goal.returns
returns c = record { one = one_step; binds = binds_computed }
