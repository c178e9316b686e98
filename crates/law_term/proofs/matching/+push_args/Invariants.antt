use Rattle.std.proofs.Common.{length}
use Rattle.law_term.proofs.matching.+push_args.Given as goal

abbrev pub decreases-push_args : goal.decreases-push_args
decreases-push_args l = length l.patterns.now
