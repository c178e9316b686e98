use Rattle.std.proofs.Common.{◌*◌, ◌^◌, ◌-◌, slice_index_or, ap, ◌∙◌, min}
use Rattle.law_sig.proofs.CountFacts.{counting_more, counting_first, has_place}
use Rattle.law_sig.proofs.sig.Sig.assignments.Goals as goal

pub pow-requires : goal.pow-requires
pow-requires c = (has_place c.args.self.now c.settings-settings.result.now c.as_slice-vars-items.result.now c.as_slice.result.now c.loop-at.at
    c.settings-settings.ensures.well_formed c.settings-settings.ensures.settings c.as_slice-vars-items.ensures c.as_slice.ensures c.loop-at-test.true).few

pub loop-at-init : goal.loop-at-init
loop-at-init c = counting_first c.args.self.now (2 ^ 64 - 1)

pub loop-at-preserved : goal.loop-at-preserved
loop-at-preserved c =
    let place = has_place c.args.self.now c.settings-settings.result.now c.as_slice-vars-items.result.now c.as_slice.result.now c.loop-at.at
    c.settings-settings.ensures.well_formed c.settings-settings.ensures.settings c.as_slice-vars-items.ensures c.as_slice.ensures c.loop-at-test.true in
    counting_more c.args.self.now (2 ^ 64 - 1) c.loop-at.at c.loop-at.ways c.saturating_mul-ways.result (slice_index_or c.as_slice-vars-items.result.now c.loop-at.at 0)
    (slice_index_or c.as_slice.result.now c.loop-at.at 0) place.within place.vars place.width
    (c.saturating_mul-ways.ensures ∙ ap (λ p. min (c.loop-at.ways * p) (2 ^ 64 - 1)) c.pow.ensures) c.loop-at.invariant
