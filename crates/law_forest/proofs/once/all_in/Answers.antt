use Rattle.std.proofs.Common.{slice_index_or}
use Rattle.law_sig.specs.Lists.{In}
use Rattle.law_checking.proofs.Onces.{reread, is_in, not_each, each_next}
use Rattle.law_forest.proofs.once.all_in.Goals as goal

pub returns-then-not-contains : goal.returns-then-not-contains
returns-then-not-contains c = (
  λ e. let h : ⊥ = cc in absurd h,
  λ all. absurd (not_each (λ n. In n c.args.others.now) c.args.numbers.now c.loop-number.number-index (slice_index_or c.args.numbers.now c.loop-number.number-index 0) c.loop-number-test.true (reread c.args.numbers.now c.loop-number.number-index 0 c.loop-number-test.true)
      (λ i. let h = (is_in (slice_index_or c.args.numbers.now c.loop-number.number-index 0) c.in_ok-set.set.keys c.contains.result c.contains.ensures).1 ((c.in_ok-set.ensures (slice_index_or c.args.numbers.now c.loop-number.number-index 0)).1 i) in
      let k = c.if-not-contains.true in cc) all),
)

pub loop-number-preserved : goal.loop-number-preserved
loop-number-preserved c =
    each_next (λ n. In n c.args.others.now) c.args.numbers.now c.loop-number.number-index (slice_index_or c.args.numbers.now c.loop-number.number-index 0) c.loop-number-test.true (reread c.args.numbers.now c.loop-number.number-index 0 c.loop-number-test.true) c.loop-number.invariant
    ((c.in_ok-set.ensures (slice_index_or c.args.numbers.now c.loop-number.number-index 0)).0 ((is_in (slice_index_or c.args.numbers.now c.loop-number.number-index 0) c.in_ok-set.set.keys c.contains.result c.contains.ensures).0 c.if-not-contains.false))
