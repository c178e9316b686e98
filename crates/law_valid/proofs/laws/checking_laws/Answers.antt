-- Each law is proved by a lemma.
use Rattle.law_laws.proofs.Descents.{weighs_something}
use Rattle.law_valid.proofs.Verdicts.{one_answer}
use Rattle.law_valid.proofs.Checked.{yes_valid, valid_yes}
use Rattle.law_valid.proofs.Walked.{in_order_whole}
use Rattle.law_valid.proofs.Passed.{whole_in_order}
use Rattle.law_valid.proofs.laws.checking_laws.Goals as goal

pub returns : goal.returns
returns c = record {
  exact = λ parts pools entries trees. (yes_valid parts pools entries trees, valid_yes parts pools entries trees);
  one = one_answer;
  order = λ parts well ms. (in_order_whole parts (weighs_something parts well) ms, whole_in_order parts (weighs_something parts well) ms);
}
