use Rattle.std.proofs.Common.{length, sym, ap, ◌∙◌, arith}
use Rattle.law_sig.specs.declared.tree.Tree.TheVariants.{App}
use Rattle.law_replay.proofs.Meanings.{means-Under, means-Over, whole_same, one_head}
use Rattle.law_replay.proofs.term.+is_tree.Goals as goal

pub returns-in-Under : goal.returns-in-Under
returns-in-Under t c = (
  λ e. means-Under _ _ _ c.in-Under.is ∙ sym (c.is_instance.ensures.0 e),
  λ h. c.is_instance.ensures.1 (sym h ∙ means-Under _ _ _ c.in-Under.is),
)

pub returns-after-loop-at : goal.returns-after-loop-at
returns-after-loop-at t c =
    let l = ap length c.as_slice-part-items.ensures in
    whole_same _ _ _ _ _ _ c.loop-at.at (means-Over _ _ _ c.in-Over.is) (c.in-App.is ∙ ap (App _) (sym c.as_slice-part-items.ensures)) (one_head _ _ c.if-head-other_head.false)
    (omega (arith, l, c.loop-at-test.false, c.len.ensures, c.if-args-len.false)) c.loop-at-test.false c.loop-at.invariant
