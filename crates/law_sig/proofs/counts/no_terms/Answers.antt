use Rattle.std.proofs.Common.{refl}
use Rattle.law_sig.proofs.TermCounts.{row_more}
use Rattle.law_sig.proofs.counts.no_terms.Goals as goal

pub loop-preserved : goal.loop-preserved
loop-preserved c = row_more c.loop.counter (λ sort. 0) c.loop.row c.push.new.self 0 c.loop.invariant refl c.in_ok-push.ensures.ok
