use Rattle.std.proofs.Common.{rules, slice_index_or}
use Rattle.law_checking.proofs.Onces.{reread, same_next, distinct_next, not_distinct}
use Rattle.law_forest.proofs.once.are_distinct.Goals as goal

pub returns-then-not-is_new : goal.returns-then-not-is_new
returns-then-not-is_new c = (
  λ e. let h : ⊥ = cc in absurd h,
  λ all. absurd (not_distinct c.args.numbers.now c.loop-number.number-index (slice_index_or c.args.numbers.now c.loop-number.number-index 0) c.loop-number.set.keys c.loop-number-test.true (reread c.args.numbers.now c.loop-number.number-index 0 c.loop-number-test.true)
      c.loop-number.invariant.same (search rules) all),
)

pub loop-number-preserved : goal.loop-number-preserved
loop-number-preserved c = record {
  same = same_next c.args.numbers.now c.loop-number.number-index (slice_index_or c.args.numbers.now c.loop-number.number-index 0) c.loop-number.set.keys c.insert.new.self.keys c.loop-number-test.true (reread c.args.numbers.now c.loop-number.number-index 0 c.loop-number-test.true)
      c.in-Ok.ensures.keys c.loop-number.invariant.same;
  distinct = distinct_next c.args.numbers.now c.loop-number.number-index (slice_index_or c.args.numbers.now c.loop-number.number-index 0) c.loop-number.set.keys c.loop-number-test.true (reread c.args.numbers.now c.loop-number.number-index 0 c.loop-number-test.true)
      c.loop-number.invariant.same c.loop-number.invariant.distinct (search rules);
}
