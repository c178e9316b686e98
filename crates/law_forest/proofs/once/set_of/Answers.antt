use Rattle.std.proofs.Common.{slice_index_or}
use Rattle.law_checking.proofs.Onces.{reread, same_next}
use Rattle.law_forest.proofs.once.set_of.Goals as goal

pub loop-number-preserved : goal.loop-number-preserved
loop-number-preserved c =
    same_next c.args.numbers.now c.loop-number.number-index (slice_index_or c.args.numbers.now c.loop-number.number-index 0) c.loop-number.set.keys c.insert.new.self.keys c.loop-number-test.true (reread c.args.numbers.now c.loop-number.number-index 0 c.loop-number-test.true)
    c.in-Ok.ensures.keys c.loop-number.invariant
