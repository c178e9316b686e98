use Rattle.law_acceptance.proofs.LowFacts.{low_var}
use Rattle.law_acceptance.proofs.towers.tower.Goals as goal

pub over-requires-clause-low : goal.over-requires-clause-low
over-requires-clause-low c = low_var _ _ _ c.in_ok-below.ensures.tree c.requires
