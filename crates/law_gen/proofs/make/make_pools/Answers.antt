use Rattle.std.proofs.Common.{sym, ap, ◌∙◌, subst, arith}
use Rattle.law_sig.specs.WellFormed.{IsSeeded, IsPoolRule}
use Rattle.law_sig.specs.declared.parts.Settings.{Settings}
use Rattle.law_ids.proofs.GivenFacts.{ids_shape, ids_count}
use Rattle.law_draws.specs.Draws.{pools_drawn, generator_of}
use Rattle.law_draws.proofs.ShapeFacts.{pools_shape, pools_count}
use Rattle.law_gen.proofs.make.make_pools.Goals as goal

pub build-requires-clause-shape : goal.build-requires-clause-shape
build-requires-clause-shape c =
    ids_shape c.args.sig.now.settings.width c.draw_pools.new.bank c.in_ok-values.values (pools_drawn c.args.sig.now c.in-Seeded.height c.in-Seeded.count (generator_of c.in-Seeded.seed)).made c.in_ok-values.ensures.made
    (pools_shape c.args.sig.now c.settings.ensures.well_formed c.in-Seeded.height c.in-Seeded.count (generator_of c.in-Seeded.seed))

pub build-requires-clause-pools : goal.build-requires-clause-pools
build-requires-clause-pools c =
    let seeded : IsSeeded c.args.sig.now c.in-Seeded.seed c.in-Seeded.height c.in-Seeded.count =
    subst (IsPoolRule c.args.sig.now) (ap (λ (s : Settings). s.pools) (sym c.settings.ensures.settings) ∙ c.in-Seeded.is) c.settings.ensures.well_formed.settings.pools in
    omega (
      arith,
      ids_count c.draw_pools.new.bank c.in_ok-values.values (pools_drawn c.args.sig.now c.in-Seeded.height c.in-Seeded.count (generator_of c.in-Seeded.seed)).made c.in_ok-values.ensures.made,
      pools_count c.args.sig.now c.in-Seeded.height c.in-Seeded.count (generator_of c.in-Seeded.seed),
      seeded.count_range.1,
    )
