use Rattle.std.proofs.Common.{length}
use Rattle.law_schema.proofs.walk.+set_next.Given as goal

abbrev pub decreases-set_next : goal.decreases-set_next
decreases-set_next l = length l.choices.now
