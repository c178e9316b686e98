-- Each law is proved by a lemma.
use Rattle.law_rewriting.proofs.Advancing.{advances_one, advances_then}
use Rattle.law_rewriting.proofs.Peaks.{lemma_chain}
use Rattle.law_rewriting.proofs.Light.{lemma_light}
use Rattle.law_rewriting.proofs.completion_laws.Goals as goal

pub returns : goal.returns
returns c = record {
  course = λ parts s t u q g h a b. let e = advances_one parts a b in (e.state, e.halt);
  joins = λ parts s t u m n h a b. advances_then parts a b;
  provable = lemma_chain;
  light = lemma_light;
}
