-- Each law is proved by a lemma.
use Rattle.law_laws.proofs.Application.{is_applied, applies_is, one_value, more_depth, ap_gives, gives_ap, over_costs, costs_over}
use Rattle.law_laws.proofs.application_laws.Goals as goal

pub returns : goal.returns
returns c = record {
  given = is_applied;
  computed = λ parts deep f args m p h. applies_is parts p deep h;
  one = λ parts f args v w n k p q. one_value parts p q;
  depth = more_depth;
  budget = λ parts f args budget. record {
    within = λ m. (λ e. ap_gives parts f args budget m e, λ p. gives_ap parts budget p.0 p.1);
    over = (λ e v n p. over_costs parts budget e p, costs_over parts f args budget);
  };
}
