use Rattle.law_explore.proofs.RefusalFacts.{one_refusal, none_within}
use Rattle.law_explore.proofs.listed.refusal_laws.Goals as goal

pub returns : goal.returns
returns c = record { one = one_refusal; none = none_within }
