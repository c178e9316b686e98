-- Each law is proved by a lemma.
use Rattle.law_rewriting.proofs.Chains.{with_sorts, sorted_replays}
use Rattle.law_rewriting.proofs.Replaying.{form_by_head, form_replayed, one_join, join_by_head, join_replays}
use Rattle.law_rewriting.proofs.chain_laws.Goals as goal

pub returns : goal.returns
returns c = record {
  form = λ parts equations rules sides among steps s t sort e h. form_replayed parts equations rules sides among h sort e;
  sorted = λ parts equations steps s t. ((λ h. with_sorts parts equations h), (λ h. sorted_replays parts equations h));
  form_by_head = λ parts equations rules among steps s t h. form_by_head parts equations rules among h;
  one = λ parts kept s t steps others h k. one_join parts kept s t h k;
  join = λ parts kept sides steps s t left right e d h. join_replays parts kept sides s t left right e d h;
  join_by_head = λ parts kept steps s t h. join_by_head parts kept h;
}
