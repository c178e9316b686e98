use Rattle.std.proofs.Common.{length, true≢false, sym, ap, ◌∙◌, arith}
use Rattle.law_sig.specs.Trees.{substituted}
use Rattle.law_sig.specs.declared.tree.Tree.TheVariants.{App}
use Rattle.law_sig.specs.Chains.{bound_in}
use Rattle.law_replay.proofs.Meanings.{more_same, other_count, other_item, all_same, side_is, one_head}
use Rattle.law_replay.proofs.term.+are_same.Goals as goal

pub returns-then-len : goal.returns-then-len
returns-then-len t c = other_count (substituted (bound_in c.args.binds.now)) (substituted (bound_in c.args.others.now)) _ _ _ _ _ _
    (side_is _ _ _ _ c.in-App.is) (side_is _ _ _ _ c.in-App-other.is) (λ e. c.if-len.true (c.len.ensures ∙ e ∙ sym c.len-2.ensures))

pub returns-then-not-are_same : goal.returns-then-not-are_same
returns-then-not-are_same t c =
    let l = ap length c.as_slice-arg-items.ensures in
    let m = ap length c.as_slice-parts.ensures in
    other_item (substituted (bound_in c.args.binds.now)) (substituted (bound_in c.args.others.now)) _ _ _ _ _ _
    (side_is _ _ _ _ (c.in-App.is ∙ ap (App _) (sym c.as_slice-arg-items.ensures))) (side_is _ _ _ _ (c.in-App-other.is ∙ ap (App _) (sym c.as_slice-parts.ensures)))
    c.loop-at.at _ _ c.loop-at-test.true c.arg-item.is (omega (arith, l, m, c.loop-at-test.true, c.len.ensures, c.len-2.ensures, c.if-len.false)) c.index-parts-at.is
    (λ e. true≢false (sym (c.are_same.ensures.1 e) ∙ c.if-not-are_same.true))

pub loop-at-preserved : goal.loop-at-preserved
loop-at-preserved t c =
    let l = ap length c.as_slice-arg-items.ensures in
    let m = ap length c.as_slice-parts.ensures in
    more_same (substituted (bound_in c.args.binds.now)) (substituted (bound_in c.args.others.now)) _ _ c.loop-at.at _ _ c.loop-at-test.true c.arg-item.is
    (omega (arith, l, m, c.loop-at-test.true, c.len.ensures, c.len-2.ensures, c.if-len.false)) c.index-parts-at.is
    (c.are_same.ensures.0 c.if-not-are_same.false) c.loop-at.invariant

pub returns : goal.returns
returns t c =
    let l = ap length c.as_slice-arg-items.ensures in
    let m = ap length c.as_slice-parts.ensures in
    all_same (substituted (bound_in c.args.binds.now)) (substituted (bound_in c.args.others.now)) _ _ _ _ _ _
    (side_is _ _ _ _ (c.in-App.is ∙ ap (App _) (sym c.as_slice-arg-items.ensures))) (side_is _ _ _ _ (c.in-App-other.is ∙ ap (App _) (sym c.as_slice-parts.ensures)))
    c.loop-at.at (one_head _ _ c.if-head-other_head.false) c.loop-at-test.false (omega (arith, l, m, c.loop-at-test.false, c.len.ensures, c.len-2.ensures, c.if-len.false)) c.loop-at.invariant
