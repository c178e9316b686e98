use Rattle.std.proofs.Common.{rules, ◌≡◌, ◌*◌, ◌+◌, ◌<◌, ◌≤◌, ◌^◌, slice_index_or, ap, ◌∙◌, subst, arith}
use Rattle.law_sig.specs.Signature.{vars_at, width_at}
use Rattle.law_sig.specs.declared.parts.Settings.{Settings}
use Rattle.law_laws.proofs.Renaming.{has_width}
use Rattle.law_own.specs.Own.{vars_of}
use Rattle.law_pool.specs.Wheels.{slot, sort_slots, ways_in}
use Rattle.law_pool.proofs.Slots.{drop_first, drop_none, made_more, ways_more, step_fits, made_end, ways_end}
use Rattle.law_pool.proofs.own.push_wheels.Goals as goal

vars_are : (c : goal.After-loop-index) → c.number_at-vars.result ≡ vars_at c.args.sig.now (record { 0 = c.args.sort })
vars_are c = c.number_at-vars.ensures ∙ ap (λ l. slice_index_or l c.args.sort 0) (c.as_slice.ensures ∙ ap (λ (s : Settings). s.vars) c.settings-settings.ensures.settings)

pub overflow_mul-step : goal.overflow_mul-step
overflow_mul-step c =
    let parts = c.args.sig.now in
    let vars = vars_of c.args.left.now c.args.right.now in
    let below : c.loop-index.index < vars_at parts (record { 0 = c.args.sort }) =
    subst (λ n. c.loop-index.index < n) (c.number_at-vars.ensures ∙ ap (λ l. slice_index_or l c.args.sort 0) (c.as_slice.ensures ∙ ap (λ (s : Settings). s.vars) c.settings-settings.ensures.settings))
    c.loop-index-test.true in
    let width : c.number_at-width.result ≡ width_at parts (record { 0 = c.args.sort }) =
    c.number_at-width.ensures ∙ ap (λ l. slice_index_or l c.args.sort 1) (c.as_slice-2.ensures ∙ ap (λ (s : Settings). s.width) c.settings-settings.ensures.settings) in
    let here = drop_first (vars_at parts (record { 0 = c.args.sort })) (slot parts vars c.args.sort) c.loop-index.index below in
    let ways = ways_more (sort_slots parts vars c.args.sort) c.loop-index.index (slot parts vars c.args.sort c.loop-index.index) c.loop-index.step
    (c.args.first * ways_in (sort_slots parts vars c.args.sort)) c.number_at-width.result here width c.loop-index.invariant.ways in
    let fits = step_fits parts vars (has_width parts c.settings-settings.ensures.well_formed) c.args.sort (c.loop-index.index + 1) (c.loop-index.step * c.number_at-width.result)
    (c.args.first * ways_in (sort_slots parts vars c.args.sort)) ways in
    let few = c.requires.few in
    let k : c.loop-index.step * c.number_at-width.result < 2 ^ 64 = omega (arith, fits, few) in
    search (rules, k)

pub loop-index-preserved : goal.loop-index-preserved
loop-index-preserved c =
    let parts = c.args.sig.now in
    let vars = vars_of c.args.left.now c.args.right.now in
    let below : c.loop-index.index < vars_at parts (record { 0 = c.args.sort }) =
    subst (λ n. c.loop-index.index < n) (c.number_at-vars.ensures ∙ ap (λ l. slice_index_or l c.args.sort 0) (c.as_slice.ensures ∙ ap (λ (s : Settings). s.vars) c.settings-settings.ensures.settings))
    c.loop-index-test.true in
    let width : c.number_at-width.result ≡ width_at parts (record { 0 = c.args.sort }) =
    c.number_at-width.ensures ∙ ap (λ l. slice_index_or l c.args.sort 1) (c.as_slice-2.ensures ∙ ap (λ (s : Settings). s.width) c.settings-settings.ensures.settings) in
    let here = drop_first (vars_at parts (record { 0 = c.args.sort })) (slot parts vars c.args.sort) c.loop-index.index below in
    record {
      made = made_more c.args.wheels.now c.loop-index.wheels c.push_wheel.new.wheels (sort_slots parts vars c.args.sort) c.loop-index.index (slot parts vars c.args.sort c.loop-index.index)
          c.loop-index.step c.args.first c.number_at-width.result here width c.in_ok-push_wheel.ensures c.loop-index.invariant.made;
      ways = ways_more (sort_slots parts vars c.args.sort) c.loop-index.index (slot parts vars c.args.sort c.loop-index.index) c.loop-index.step
          (c.args.first * ways_in (sort_slots parts vars c.args.sort)) c.number_at-width.result here width c.loop-index.invariant.ways;
    }

pub returns-clause-wheels : goal.returns-clause-wheels
returns-clause-wheels c = made_end c.loop-index.wheels _ (sort_slots c.args.sig.now (vars_of c.args.left.now c.args.right.now) c.args.sort) c.loop-index.index c.loop-index.step
    (drop_none (vars_at c.args.sig.now (record { 0 = c.args.sort })) (slot c.args.sig.now (vars_of c.args.left.now c.args.right.now) c.args.sort) c.loop-index.index
    (subst (λ n. n ≤ c.loop-index.index) (vars_are c) c.loop-index-test.false)) c.loop-index.invariant.made

pub returns-clause-step : goal.returns-clause-step
returns-clause-step c = ways_end (sort_slots c.args.sig.now (vars_of c.args.left.now c.args.right.now) c.args.sort) c.loop-index.index c.loop-index.step _
    (drop_none (vars_at c.args.sig.now (record { 0 = c.args.sort })) (slot c.args.sig.now (vars_of c.args.left.now c.args.right.now) c.args.sort) c.loop-index.index
    (subst (λ n. n ≤ c.loop-index.index) (vars_are c) c.loop-index-test.false)) c.loop-index.invariant.ways
