use Rattle.law_sig.specs.Counts.{stopped}
use Rattle.law_sig.proofs.TermCounts.{row_more, with_sort, read_from}
use Rattle.law_sig.proofs.counts.with_first.Goals as goal

pub loop-weight-preserved : goal.loop-weight-preserved
loop-weight-preserved c = row_more c.loop-weight.weight (λ w. stopped (with_sort c.args.rows.now c.args.sort (read_from c.args.rest.now) w)) c.loop-weight.lists c.push.new.self
    c.with_first_at.result c.loop-weight.invariant c.with_first_at.ensures c.in_ok-push.ensures.ok
