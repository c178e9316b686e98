-- Each law is proved by a lemma.
use Rattle.law_laws.proofs.Listed.{counted, one_length}
use Rattle.law_laws.proofs.counting.counting_laws.Goals as goal

pub returns : goal.returns
returns c = record { listed = counted; every = one_length }
