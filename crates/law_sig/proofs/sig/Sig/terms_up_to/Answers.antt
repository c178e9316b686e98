use Rattle.std.proofs.Common.{◌≡◌, suc, ◌+◌, ◌<◌, [], ◌∷◌, ◌++◌, sym, ap, ap₂, ◌∙◌, subst, arith}
use Rattle.law_sig.specs.Counts.{rows_up_to, term_count}
use Rattle.law_sig.specs.declared.parts.Settings.{Settings}
use Rattle.law_sig.proofs.TermCounts.{taken_whole, passed, count_first, none_past}
use Rattle.law_sig.proofs.sig.Sig.terms_up_to.Goals as goal

pub loop-init : goal.loop-init
loop-init c = record {
  rows = c.in_ok-push.ensures.ok ∙ ap₂ (λ l x. l ++ x ∷ []) c.new-rows.ensures c.in_ok-no_terms.ensures;
  count = count_first c.args.self.now;
  within = omega arith;
}

pub returns-then-count-limit : goal.returns-then-count-limit
returns-then-count-limit c =
    none_past c.args.limit (term_count c.args.self.now)
    (passed c.args.self.now c.loop.counter c.args.self.now.settings.size c.args.limit c.loop.count c.with_row-count.result c.as_slice.result.now c.as_slice-in-loop.result.now
    (subst (λ (s : Settings). c.loop.counter < s.size) c.settings.ensures.settings c.loop-test.true) (c.as_slice.ensures ∙ c.loop.invariant.rows) c.loop.invariant.count
    (c.as_slice-in-loop.ensures ∙ c.in_ok-row.ensures) c.with_row-count.ensures c.if-count-limit.true)

pub loop-preserved : goal.loop-preserved
loop-preserved c =
    let whole = taken_whole c.args.self.now c.loop.counter c.args.limit c.loop.count c.with_row-count.result c.as_slice.result.now c.as_slice-in-loop.result.now
    (omega arith) (c.as_slice.ensures ∙ c.loop.invariant.rows) c.loop.invariant.count (c.as_slice-in-loop.ensures ∙ c.in_ok-row.ensures) c.with_row-count.ensures c.if-count-limit.false in
    let next : suc c.loop.counter ≡ c.loop.counter + 1 = omega arith in
    record {
      rows = c.in_ok-push-2.ensures.ok ∙ ap₂ (λ l x. l ++ x ∷ []) c.loop.invariant.rows (sym c.as_slice-in-loop.ensures ∙ whole.exact) ∙ ap (rows_up_to c.args.self.now) next;
      count = whole.count;
      within = c.if-count-limit.false;
    }
