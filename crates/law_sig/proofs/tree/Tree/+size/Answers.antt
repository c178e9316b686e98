use Rattle.law_sig.specs.Trees.{node_count}
use Rattle.law_sig.proofs.SizeFacts.{counted_more}
use Rattle.law_sig.proofs.tree.Tree.+size.Goals as goal

pub loop-arg-preserved : goal.loop-arg-preserved
loop-arg-preserved t c =
    counted_more node_count _ _ _ _ _ _ _ c.loop-arg-test.true c.arg-item.is c.loop-arg.invariant c.size.ensures c.saturating_add-count.ensures
