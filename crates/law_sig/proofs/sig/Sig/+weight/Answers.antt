use Rattle.law_sig.specs.Tests.{weight}
use Rattle.law_sig.proofs.SizeFacts.{counted_more}
use Rattle.law_sig.proofs.sig.Sig.+weight.Goals as goal

pub loop-arg-preserved : goal.loop-arg-preserved
loop-arg-preserved t c =
    counted_more (weight c.args.self.now) _ _ _ _ _ _ _ c.loop-arg-test.true c.arg-item.is c.loop-arg.invariant c.weight.ensures c.saturating_add-sum.ensures
