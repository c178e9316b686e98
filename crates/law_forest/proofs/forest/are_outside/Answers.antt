use Rattle.std.proofs.Common.{refl}
use Rattle.law_checking.specs.Planted.{IsOutside}
use Rattle.law_checking.proofs.Onces.{not_each, each_next, each_all_of}
use Rattle.law_forest.proofs.forest.are_outside.Goals as goal

pub returns-then-not-is_outside : goal.returns-then-not-is_outside
returns-then-not-is_outside c = (
  λ e. let h : ⊥ = cc in absurd h,
  λ all. absurd (not_each (IsOutside c.args.sig.now c.args.from c.args.to) c.args.terms.now c.loop-term.term-index c.term-item.result c.loop-term-test.true c.term-item.is
      (λ own. let h = c.is_outside.ensures.1 own in let k = c.if-not-is_outside.true in cc) all),
)

pub loop-term-preserved : goal.loop-term-preserved
loop-term-preserved c = each_next (IsOutside c.args.sig.now c.args.from c.args.to) c.args.terms.now c.loop-term.term-index c.term-item.result c.loop-term-test.true c.term-item.is
    c.loop-term.invariant (c.is_outside.ensures.0 c.if-not-is_outside.false)

pub returns : goal.returns
returns c = (λ e. each_all_of (IsOutside c.args.sig.now c.args.from c.args.to) c.args.terms.now c.loop-term.term-index c.loop-term-test.false c.loop-term.invariant, λ all. refl)
