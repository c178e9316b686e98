use Rattle.std.proofs.Common.{sym, refl, ◌∙◌, arith}
use Rattle.law_chains.proofs.Counted.{one_more_sort, at_numbered, all_numbered}
use Rattle.law_replay.proofs.terms.is_general.Goals as goal

pub returns-then-is_none : goal.returns-then-is_none
returns-then-is_none c = (λ e. cc, λ h. sym c.if-is_none.ensures ∙ at_numbered c.args.term.now _ _ c.count_up.ensures (h _))

pub loop-at-preserved : goal.loop-at-preserved
loop-at-preserved c = one_more_sort c.args.term.now c.loop-at.at _ c.count_up.ensures c.if-is_none.ensures c.loop-at.invariant

pub returns : goal.returns
returns c = (
  λ e. all_numbered c.args.sig.now c.args.term.now c.loop-at.at c.requires (omega (arith, c.loop-at-test.false, c.sorts-at-end.ensures)) c.loop-at.invariant,
  λ h. refl,
)
