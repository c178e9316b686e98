use Rattle.law_sig.specs.Lists.In.{here}
use Rattle.std.proofs.Common.{refl, sym, subst, take}
use Rattle.law_sig.specs.Lists.{In}
use Rattle.law_laws.proofs.ListFacts.{in_right, of_each}
use Rattle.law_checking.specs.Planted.{IsOfSort}
use Rattle.law_checking.proofs.Onces.{parted_at, each_next, each_all_of}
use Rattle.law_forest.proofs.forest.has_sort.Goals as goal

pub returns-then-is_of_sort : goal.returns-then-is_of_sort
returns-then-is_of_sort c = (
  λ e. (
    c.term-item.result,
    subst (In c.term-item.result) (sym (parted_at c.args.terms.now c.loop-term.term-index c.term-item.result c.loop-term-test.true c.term-item.is))
        (in_right (take c.loop-term.term-index c.args.terms.now) here),
    c.is_of_sort.ensures.0 c.if-is_of_sort.true,
  ),
  λ h. refl,
)

pub loop-term-preserved : goal.loop-term-preserved
loop-term-preserved c = each_next (λ t. IsOfSort c.args.sig.now c.args.sort t → ⊥) c.args.terms.now c.loop-term.term-index c.term-item.result c.loop-term-test.true c.term-item.is
    c.loop-term.invariant (λ own. let h = c.is_of_sort.ensures.1 own in let k = c.if-is_of_sort.false in cc)

pub returns : goal.returns
returns c = (
  λ e. let h : ⊥ = cc in absurd h,
  λ h. absurd (of_each (λ t. IsOfSort c.args.sig.now c.args.sort t → ⊥) h.1
      (each_all_of (λ t. IsOfSort c.args.sig.now c.args.sort t → ⊥) c.args.terms.now c.loop-term.term-index c.loop-term-test.false c.loop-term.invariant) h.2),
)
