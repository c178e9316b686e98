use Rattle.std.proofs.Common.{length, true≢false, sym, ap, ◌∙◌, arith}
use Rattle.law_sig.specs.Trees.{substituted}
use Rattle.law_sig.specs.declared.tree.Tree.TheVariants.{App}
use Rattle.law_sig.specs.Chains.{bound_in}
use Rattle.law_replay.specs.Terms.{meaning}
use Rattle.law_replay.proofs.Meanings.{more_same, other_count, other_item, all_same, side_is, one_head, means-Under, means-Over, told_by}
use Rattle.law_replay.proofs.term.+matches.Goals as goal

pub returns-then-len-parts : goal.returns-then-len-parts
returns-then-len-parts t c = other_count meaning (substituted (bound_in c.args.binds.now)) _ _ _ _ _ _ (means-Over _ _ _ c.in-Over.is) (side_is _ _ _ _ c.in-App.is)
    (λ e. c.if-len-parts.true (c.len.ensures ∙ sym e))

pub returns-then-not-matches : goal.returns-then-not-matches
returns-then-not-matches t c =
    let l = ap length c.as_slice-arg-items.ensures in
    other_item meaning (substituted (bound_in c.args.binds.now)) _ _ _ _ _ _ (means-Over _ _ _ c.in-Over.is)
    (side_is _ _ _ _ (c.in-App.is ∙ ap (App _) (sym c.as_slice-arg-items.ensures)))
    c.loop-at.at _ _ (omega (arith, l, c.loop-at-test.true, c.len.ensures, c.if-len-parts.false)) c.index-parts-at.is c.loop-at-test.true c.arg-item.is
    (λ e. true≢false (sym (c.matches.ensures.1 e) ∙ c.if-not-matches.true))

pub loop-at-preserved : goal.loop-at-preserved
loop-at-preserved t c =
    let l = ap length c.as_slice-arg-items.ensures in
    more_same meaning (substituted (bound_in c.args.binds.now)) _ _ c.loop-at.at _ _
    (omega (arith, l, c.loop-at-test.true, c.len.ensures, c.if-len-parts.false)) c.index-parts-at.is c.loop-at-test.true c.arg-item.is
    (c.matches.ensures.0 c.if-not-matches.false) c.loop-at.invariant

pub returns-in-Under : goal.returns-in-Under
returns-in-Under t c = told_by _ _ _ _ (means-Under _ _ _ c.in-Under.is) c.are_same.ensures

pub returns-after-loop-at : goal.returns-after-loop-at
returns-after-loop-at t c =
    let l = ap length c.as_slice-arg-items.ensures in
    all_same meaning (substituted (bound_in c.args.binds.now)) _ _ _ _ _ _ (means-Over _ _ _ c.in-Over.is)
    (side_is _ _ _ _ (c.in-App.is ∙ ap (App _) (sym c.as_slice-arg-items.ensures)))
    c.loop-at.at (one_head _ _ (sym c.if-head-other_head.false)) (omega (arith, l, c.loop-at-test.false, c.len.ensures, c.if-len-parts.false)) c.loop-at-test.false c.loop-at.invariant
