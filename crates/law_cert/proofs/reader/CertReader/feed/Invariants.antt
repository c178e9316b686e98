use Rattle.std.proofs.Common.{length}
use Rattle.law_cert.proofs.FeedFacts.{Feeding}
use Rattle.law_cert.proofs.reader.CertReader.feed.Given as goal

abbrev pub invariant-loop-end : goal.invariant-loop-end
invariant-loop-end l = Feeding l.initial.self l.self l.piece l.rest

abbrev pub decreases-loop-end : goal.decreases-loop-end
decreases-loop-end l = length l.rest
