-- Each law is proved by a lemma.
use Rattle.law_laws.proofs.Agreement.{agrees_back, agrees_chain, same_least, least_same, one_law_list}
use Rattle.law_laws.proofs.agreement_laws.Goals as goal

pub returns : goal.returns
returns c = record {
  equivalence = λ parts pools. record { back = agrees_back parts pools; chain = agrees_chain parts pools };
  least = λ parts pools sort s t u w l m. (least_same parts pools sort s t u w l m, same_least parts pools sort s t u w l m);
  one = one_law_list;
}
