use Rattle.std.proofs.Common.{length}
use Rattle.law_agenda.proofs.closing.+are_schemas.Given as goal

abbrev pub decreases-are_schemas : goal.decreases-are_schemas
decreases-are_schemas l = length l.sorts.now
