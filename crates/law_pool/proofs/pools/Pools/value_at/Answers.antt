use Rattle.std.proofs.Common.{◌/◌, sym, ap, ap₂, ◌∙◌}
use Rattle.law_sig.specs.Lists.{product}
use Rattle.law_sig.specs.Tests.{pool_value}
use Rattle.law_ids.specs.Table.{pools_of, radices_by}
use Rattle.law_pool.proofs.KeptFacts.{count_kept}
use Rattle.law_pool.proofs.pools.Pools.value_at.Goals as goal

pub returns-clause-value : goal.returns-clause-value
returns-clause-value c parts bank for =
    ap₂ (λ pool place. pool_value (pools_of bank c.args.self.now.ids) pool c.args.sort place)
    (ap (λ n. c.args.test / n) (ap₂ (λ vs ws. product (radices_by vs ws)) (sym for.vars) (sym for.width)
    ∙ sym (count_kept c.self.inside.places c.self.inside.assignments c.self.inside.values c.args.self.now c.self.invariant c.self.view_is)))
    (sym (c.digit-place.ensures.place parts for))
    ∙ c.pool_value.ensures.value bank
