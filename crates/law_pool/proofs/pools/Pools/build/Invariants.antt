use Rattle.law_pool.proofs.BuildFacts.{IsBuilt}
use Rattle.law_pool.proofs.pools.Pools.build.Given as goal

abbrev pub invariant-loop-at : goal.invariant-loop-at
invariant-loop-at l = IsBuilt l.settings.vars l.settings.width l.at l.places l.step
