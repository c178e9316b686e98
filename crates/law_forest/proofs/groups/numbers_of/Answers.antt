use Rattle.law_checking.specs.Planted.{IsOfSort}
use Rattle.law_checking.proofs.Numbering.{numbers_kept, numbers_more}
use Rattle.law_forest.proofs.groups.numbers_of.Goals as goal

pub loop-at-preserved-then-not-is_of_sort : goal.loop-at-preserved-then-not-is_of_sort
loop-at-preserved-then-not-is_of_sort c =
    numbers_kept (IsOfSort c.args.sig.now c.args.sort) c.args.terms.now c.loop-at.at c.index-terms-at.result c.loop-at.found c.loop-at-test.true c.index-terms-at.is
    (λ own. let h = c.is_of_sort.ensures.1 own in let k = c.if-not-is_of_sort.true in cc) c.loop-at.invariant

pub loop-at-preserved : goal.loop-at-preserved
loop-at-preserved c =
    numbers_more (IsOfSort c.args.sig.now c.args.sort) c.args.terms.now c.loop-at.at c.index-terms-at.result c.loop-at.found c.push.new.self c.loop-at-test.true c.index-terms-at.is
    (c.is_of_sort.ensures.0 c.if-not-is_of_sort.false) c.in_ok-push.ensures.ok c.loop-at.invariant
