-- Each law is proved by a lemma.
use Rattle.law_bank.proofs.OrderFacts.{k_decided, others_comparable, args_comparable}
use Rattle.law_bank.proofs.KboFacts.{kbo_decided}
use Rattle.law_bank.proofs.order_laws.Goals as goal

pub returns : goal.returns
returns c = let a = args_comparable in record { k = k_decided; kbo = kbo_decided; arguments = others_comparable }
