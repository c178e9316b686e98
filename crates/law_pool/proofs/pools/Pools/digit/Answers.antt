use Rattle.std.proofs.Common.{rules, ◌+◌, ◌*◌, ◌%◌, ◌<◌, ◌≤◌, ◌^◌, take, arith, refl, ap, ap₂, ◌∙◌}
use Rattle.law_sig.specs.Lists.{total, product}
use Rattle.law_sig.specs.Tests.{digit_in}
use Rattle.law_ids.specs.Table.{radices_by}
use Rattle.law_pool.proofs.Ways.{digit_in_ways, product_positive, radices_wide}
use Rattle.law_pool.proofs.KeptFacts.{count_kept, few_at, has_place}
use Rattle.law_pool.proofs.pools.Pools.digit.Goals as goal

pub places_of-places-requires : goal.places_of-places-requires
places_of-places-requires c = has_place c.args.self.now.vars c.args.sort.0 c.args.index c.requires

pub pow-requires : goal.pow-requires
pow-requires c =
    let h = few_at c.args.self.now c.args.sort.0 c.args.index (c.places_of-places.result.width ^ c.args.index) c.places_of-places.result c.places_of-places.ensures (omega arith) refl in
    omega (arith, h.alone)

pub overflow_mul-before : goal.overflow_mul-before
overflow_mul-before c =
    let h = few_at c.args.self.now c.args.sort.0 c.args.index c.pow.result c.places_of-places.result c.places_of-places.ensures (omega arith) c.pow.ensures in
    let k : c.places_of-places.result.step * c.pow.result < 2 ^ 64 = omega (arith, h.before) in
    search (rules, k)

pub nonzero_rem-result : goal.nonzero_rem-result
nonzero_rem-result c =
    let h : 1 ≤ product (radices_by c.args.self.now.vars c.args.self.now.width) =
    product_positive (radices_by c.args.self.now.vars c.args.self.now.width) (radices_wide c.args.self.now.vars c.args.self.now.width c.places_of-places.ensures.all_wide) in
    omega (arith, count_kept c.self.inside.places c.self.inside.assignments c.self.inside.values c.args.self.now c.self.invariant c.self.view_is)

pub nonzero_div-result : goal.nonzero_div-result
nonzero_div-result c =
    let h = few_at c.args.self.now c.args.sort.0 c.args.index c.pow.result c.places_of-places.result c.places_of-places.ensures (omega arith) c.pow.ensures in
    h.some

pub returns-clause-place : goal.returns-clause-place
returns-clause-place c parts for =
    digit_in_ways c.args.self.now.vars c.args.self.now.width c.args.sort.0 c.args.index c.places_of-places.result.step c.pow.result c.places_of-places.result.width
    c.self.inside.assignments c.args.test c.requires c.places_of-places.ensures.step (c.pow.ensures ∙ ap (λ w. w ^ c.args.index) c.places_of-places.ensures.width)
    c.places_of-places.ensures.width (count_kept c.self.inside.places c.self.inside.assignments c.self.inside.values c.args.self.now c.self.invariant c.self.view_is)
    ∙ ap₂ (λ vs ws. digit_in (radices_by vs ws) (total (take c.args.sort.0 vs) + c.args.index) (c.args.test % product (radices_by vs ws))) for.vars for.width
