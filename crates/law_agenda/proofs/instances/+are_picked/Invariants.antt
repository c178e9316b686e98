use Rattle.std.proofs.Common.{length}
use Rattle.law_agenda.proofs.instances.+are_picked.Given as goal

abbrev pub decreases-are_picked : goal.decreases-are_picked
decreases-are_picked l = length l.ranges.now
