use Rattle.std.proofs.Common.{rules, ◌≡◌, ◌*◌, ◌<◌, ◌≤◌, ◌^◌, length, slice_index_or, refl, ap, ◌∙◌, subst, arith}
use Rattle.law_sig.specs.declared.parts.Settings.{Settings}
use Rattle.law_pool.specs.Kept.{vars_kept, widths_kept, AreKept}
use Rattle.law_pool.specs.declared.pools.SortPlaces.{SortPlaces}
use Rattle.law_pool.proofs.BuildFacts.{IsBuilt, built_more, built_all, few_step, width_within, in_range}
use Rattle.law_pool.proofs.pools.Pools.build.Goals as goal

pub pow-step-requires : goal.pow-step-requires
pow-step-requires c =
    let h = few_step c.args.sig.now c.settings-settings.result.now c.loop-at.at c.loop-at.step (slice_index_or c.as_slice.result.now c.loop-at.at 0 ^ slice_index_or c.as_slice-vars-items.result.now c.loop-at.at 0)
    (slice_index_or c.as_slice-vars-items.result.now c.loop-at.at 0) (slice_index_or c.as_slice.result.now c.loop-at.at 0)
    c.settings-settings.ensures.well_formed c.requires.few c.settings-settings.ensures.settings c.loop-at.invariant.next
    (ap (λ l. slice_index_or l c.loop-at.at 0) c.as_slice-vars-items.ensures)
    (ap (λ l. slice_index_or l c.loop-at.at 0) c.as_slice.ensures ∙ in_range c.settings-settings.result.now.width c.loop-at.at 0 1
    (width_within c.args.sig.now c.settings-settings.result.now c.loop-at.at c.settings-settings.ensures.well_formed c.settings-settings.ensures.settings
    (subst (λ l. c.loop-at.at < length l) c.as_slice-vars-items.ensures c.loop-at-test.true))) refl in
    omega (arith, h.alone)

pub overflow_mul-step : goal.overflow_mul-step
overflow_mul-step c =
    let h = few_step c.args.sig.now c.settings-settings.result.now c.loop-at.at c.loop-at.step c.pow-step.result
    (slice_index_or c.as_slice-vars-items.result.now c.loop-at.at 0) (slice_index_or c.as_slice.result.now c.loop-at.at 0)
    c.settings-settings.ensures.well_formed c.requires.few c.settings-settings.ensures.settings c.loop-at.invariant.next
    (ap (λ l. slice_index_or l c.loop-at.at 0) c.as_slice-vars-items.ensures)
    (ap (λ l. slice_index_or l c.loop-at.at 0) c.as_slice.ensures ∙ in_range c.settings-settings.result.now.width c.loop-at.at 0 1
    (width_within c.args.sig.now c.settings-settings.result.now c.loop-at.at c.settings-settings.ensures.well_formed c.settings-settings.ensures.settings
    (subst (λ l. c.loop-at.at < length l) c.as_slice-vars-items.ensures c.loop-at-test.true))) c.pow-step.ensures in
    let k : c.loop-at.step * c.pow-step.result < 2 ^ 64 = omega (arith, h.before) in
    search (rules, k)

pub loop-at-preserved : goal.loop-at-preserved
loop-at-preserved c =
    let vars = c.settings-settings.result.now.vars in
    let width = c.settings-settings.result.now.width in
    let below : c.loop-at.at < length vars = subst (λ l. c.loop-at.at < length l) c.as_slice-vars-items.ensures c.loop-at-test.true in
    let within : c.loop-at.at < length width = width_within c.args.sig.now c.settings-settings.result.now c.loop-at.at c.settings-settings.ensures.well_formed c.settings-settings.ensures.settings below in
    let p : SortPlaces = record {
      vars = slice_index_or c.as_slice-vars-items.result.now c.loop-at.at 0;
      width = slice_index_or c.as_slice.result.now c.loop-at.at 0;
      step = c.loop-at.step;
    } in
    built_more vars width c.loop-at.at c.loop-at.places c.push.new.self c.loop-at.step c.pow-step.result (c.loop-at.step * c.pow-step.result) p c.loop-at.invariant
    below within (ap (λ l. slice_index_or l c.loop-at.at 0) c.as_slice-vars-items.ensures)
    (ap (λ l. slice_index_or l c.loop-at.at 0) c.as_slice.ensures ∙ in_range width c.loop-at.at 0 1 within) refl c.in_ok-push.ensures.ok c.pow-step.ensures refl

all : (c : goal.After-loop-at) → (vars_kept c.loop-at.places ≡ c.args.sig.now.settings.vars) × (widths_kept c.loop-at.places ≡ c.args.sig.now.settings.width)
    × AreKept c.loop-at.places c.loop-at.step c.args.values
all c = built_all c.args.sig.now c.loop-at.at c.loop-at.places c.loop-at.step c.args.values c.settings-settings.ensures.well_formed c.requires.few c.requires.shape c.requires.pools
    (subst (λ (s : Settings). length s.vars ≤ c.loop-at.at) c.settings-settings.ensures.settings (subst (λ l. length l ≤ c.loop-at.at) c.as_slice-vars-items.ensures c.loop-at-test.false))
    (subst (λ (s : Settings). IsBuilt s.vars s.width c.loop-at.at c.loop-at.places c.loop-at.step) c.settings-settings.ensures.settings c.loop-at.invariant)

pub invariant_of-result : goal.invariant_of-result
invariant_of-result c = (all c).2

pub returns : goal.returns
returns c = (record { vars = (all c).0; width = (all c).1 }, refl)
