-- Each law is proved by a lemma.
use Rattle.law_bank.proofs.BindingFacts.{put_value, put_rising, put_there, put_new, put_held, put_in, in_put}
use Rattle.law_bank.proofs.binding_laws.Goals as goal

pub returns : goal.returns
returns c = let a = put_there in let b = put_new in let d = put_held in let e = put_in in let f = in_put in record { put = put_value; rising = put_rising }
