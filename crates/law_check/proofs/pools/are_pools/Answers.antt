use Rattle.std.proofs.Common.{◌<◌, ◌∙◌, length, refl, sym, ap, subst}
use Rattle.std.proofs.lemmas.Option.{slice_get_read}
use Rattle.law_named.specs.Named.{pool_named, pools_named}
use Rattle.law_checking.proofs.SameLists.{get_map, same_on}
use Rattle.law_check.proofs.pools.are_pools.Goals as goal

pub loop-at-preserved : goal.loop-at-preserved
loop-at-preserved c = same_on (pools_named c.args.names.now c.args.written.now) c.args.pools.now c.loop-at.at (pool_named c.args.names.now 0 c.index-written-at.result) c.index-pools-at.result
    (get_map (pool_named c.args.names.now 0) c.args.written.now c.loop-at.at c.index-written-at.result
    (slice_get_read c.args.written.now (length c.args.written.now) c.loop-at.at c.index-written-at.result refl c.loop-at-test.true c.index-written-at.is))
    (slice_get_read c.args.pools.now (length c.args.pools.now) c.loop-at.at c.index-pools-at.result refl (subst (λ n. c.loop-at.at < n) c.if-written-pools.false c.loop-at-test.true) c.index-pools-at.is)
    (ap (pool_named c.args.names.now 0) (sym c.as_slice.ensures) ∙ c.in_ok-is_pool.ensures.0 c.if-not-branch.false ∙ c.as_slice-in-loop-at.ensures) c.loop-at.invariant
