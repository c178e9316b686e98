-- Each law is proved by a lemma.
use Rattle.std.proofs.Common.{refl}
use Rattle.law_laws.proofs.Orders.{compare_k_total, explore_total, one_tree_k, one_tree_explore, replaced_before_k, replaced_before, lighter_before, before_weight}
use Rattle.law_laws.proofs.Descents.{descent_ends}
use Rattle.law_laws.proofs.Spelled.{k_spelled}
use Rattle.law_laws.proofs.order_laws.Goals as goal

pub returns : goal.returns
returns c = record {
  spelled = λ parts s t. record { k = k_spelled parts s t; exploring = refl };
  weight = λ parts s t. record { lighter = lighter_before parts s t; before = before_weight parts s t };
  total = λ parts. record { k = compare_k_total parts; exploring = explore_total parts };
  equal = λ parts s t. record { k = one_tree_k parts s t; exploring = one_tree_explore parts s t };
  falls = λ parts f before after s t. record { k = replaced_before_k parts f before after s t; exploring = replaced_before parts f before after s t };
  ends = descent_ends;
}
