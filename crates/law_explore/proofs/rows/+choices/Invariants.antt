use Rattle.std.proofs.Common.{length}
use Rattle.law_explore.proofs.rows.+choices.Given as goal

abbrev pub decreases-choices : goal.decreases-choices
decreases-choices l = length l.lists.now
