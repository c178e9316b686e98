use Rattle.std.proofs.Common.{length}
use Rattle.law_schema.proofs.stock.+push_lives.Given as goal

abbrev pub decreases-push_lives : goal.decreases-push_lives
decreases-push_lives l = length l.numbers.now
