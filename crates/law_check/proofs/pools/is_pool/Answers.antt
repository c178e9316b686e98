use Rattle.std.proofs.Common.{◌<◌, ◌≤◌, ◌∙◌, length, refl, sym, subst}
use Rattle.std.proofs.lemmas.Option.{slice_get_read}
use Rattle.law_named.specs.Named.{values_named, pool_named}
use Rattle.law_checking.proofs.SameLists.{get_pool, pool_length, never_long, never_same, same_on, same_all}
use Rattle.law_check.proofs.pools.is_pool.Goals as goal

pub returns-then-written-pool : goal.returns-then-written-pool
returns-then-written-pool c = never_long (pool_named c.args.names.now 0 c.args.written.now) c.args.pool.now _ refl (λ e. c.if-written-pool.true (sym (pool_length c.args.names.now 0 c.args.written.now) ∙ e))

pub returns-then-not-branch : goal.returns-then-not-branch
returns-then-not-branch c = never_same (pool_named c.args.names.now 0 c.args.written.now) c.args.pool.now _ refl c.loop-at.at (values_named c.args.names.now c.loop-at.at c.index-written-at.result) c.index-pool-at.result
    (get_pool c.args.names.now c.args.written.now c.loop-at.at c.index-written-at.result
    (slice_get_read c.args.written.now (length c.args.written.now) c.loop-at.at c.index-written-at.result refl c.loop-at-test.true c.index-written-at.is))
    (slice_get_read c.args.pool.now (length c.args.pool.now) c.loop-at.at c.index-pool-at.result refl (subst (λ n. c.loop-at.at < n) c.if-written-pool.false c.loop-at-test.true) c.index-pool-at.is)
    (λ same. let h = c.in_ok-are_values.ensures.1 (same ∙ sym c.as_slice.ensures) in let k = c.if-not-branch.true in cc)

pub loop-at-preserved : goal.loop-at-preserved
loop-at-preserved c = same_on (pool_named c.args.names.now 0 c.args.written.now) c.args.pool.now c.loop-at.at (values_named c.args.names.now c.loop-at.at c.index-written-at.result) c.index-pool-at.result
    (get_pool c.args.names.now c.args.written.now c.loop-at.at c.index-written-at.result
    (slice_get_read c.args.written.now (length c.args.written.now) c.loop-at.at c.index-written-at.result refl c.loop-at-test.true c.index-written-at.is))
    (slice_get_read c.args.pool.now (length c.args.pool.now) c.loop-at.at c.index-pool-at.result refl (subst (λ n. c.loop-at.at < n) c.if-written-pool.false c.loop-at-test.true) c.index-pool-at.is)
    (c.in_ok-are_values.ensures.0 c.if-not-branch.false ∙ c.as_slice.ensures) c.loop-at.invariant

pub returns : goal.returns
returns c = same_all (pool_named c.args.names.now 0 c.args.written.now) c.args.pool.now _ refl c.loop-at.at (subst (λ n. n ≤ c.loop-at.at) (sym (pool_length c.args.names.now 0 c.args.written.now)) c.loop-at-test.false)
    (subst (λ n. n ≤ c.loop-at.at) c.if-written-pool.false c.loop-at-test.false) c.loop-at.invariant
