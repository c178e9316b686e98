use Rattle.std.proofs.Common.{sym, ap, ◌∙◌}
use Rattle.law_sig.specs.declared.parts.Settings.{Settings}
use Rattle.law_test.proofs.PoolFacts.{given_small}
use Rattle.law_test.proofs.pools.pools_of.Goals as goal

pub returns-in-Ok-clause-small : goal.returns-in-Ok-clause-small
returns-in-Ok-clause-small c =
    given_small c.args.sig.now c.settings.ensures.well_formed c.in-Given.field-0 (sym (ap (λ (s : Settings). s.pools) c.settings.ensures.settings) ∙ c.in-Given.is)
