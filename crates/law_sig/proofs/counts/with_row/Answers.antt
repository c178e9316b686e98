use Rattle.std.proofs.Common.{◌-◌, ◌^◌}
use Rattle.law_sig.proofs.TermCounts.{sum_more_exact}
use Rattle.law_sig.proofs.counts.with_row.Goals as goal

pub loop-number-preserved : goal.loop-number-preserved
loop-number-preserved c = sum_more_exact (2 ^ 128 - 1) c.args.count c.loop-number.sum c.saturating_add-sum.result c.args.row.now c.loop-number.number-index c.loop-number-test.true
    c.loop-number.invariant c.saturating_add-sum.ensures
