use Rattle.law_test.proofs.Evaluating.{right_more}
use Rattle.law_test.proofs.memo.empty.Goals as goal

pub loop-at-preserved : goal.loop-at-preserved
loop-at-preserved c = λ parts bank. right_more parts bank c.loop-at.places.items c.push.new.self.items c.in-Ok.ensures.items (c.loop-at.invariant parts bank)
