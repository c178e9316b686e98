use Rattle.std.proofs.Common.{refl}
use Rattle.law_checking.specs.Planted.{IsBelow}
use Rattle.law_checking.proofs.Onces.{not_each, each_next, each_all_of}
use Rattle.law_forest.proofs.forest.are_below.Goals as goal

pub returns-then-not-is_below : goal.returns-then-not-is_below
returns-then-not-is_below c = (
  λ e. let h : ⊥ = cc in absurd h,
  λ all. absurd (not_each (IsBelow c.args.sig.now c.args.from) c.args.terms.now c.loop-term.term-index c.term-item.result c.loop-term-test.true c.term-item.is
      (λ own. let h = c.is_below.ensures.1 own in let k = c.if-not-is_below.true in cc) all),
)

pub loop-term-preserved : goal.loop-term-preserved
loop-term-preserved c = each_next (IsBelow c.args.sig.now c.args.from) c.args.terms.now c.loop-term.term-index c.term-item.result c.loop-term-test.true c.term-item.is
    c.loop-term.invariant (c.is_below.ensures.0 c.if-not-is_below.false)

pub returns : goal.returns
returns c = (λ e. each_all_of (IsBelow c.args.sig.now c.args.from) c.args.terms.now c.loop-term.term-index c.loop-term-test.false c.loop-term.invariant, λ all. refl)
