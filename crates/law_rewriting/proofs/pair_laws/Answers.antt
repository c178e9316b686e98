-- Each law is proved by a lemma.
use Rattle.law_rewriting.proofs.OnePair.{one_pair}
use Rattle.law_rewriting.proofs.SortedPairs.{pair_sorted}
use Rattle.law_rewriting.proofs.Items.{one_item, no_item, item_more}
use Rattle.law_rewriting.proofs.pair_laws.Goals as goal

pub returns : goal.returns
returns c = record { pair = one_pair; sorted = pair_sorted; item = one_item; end = no_item; stays = item_more }
