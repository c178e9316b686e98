use Rattle.std.proofs.Common.{◌≡◌, map, take}
use Rattle.law_ids.specs.Values.{trees_of}
use Rattle.law_pool.proofs.pools.Pools.written.Given as goal

abbrev pub invariant-loop-pool : goal.invariant-loop-pool
invariant-loop-pool l = l.pools ≡ map (map (trees_of l.bank)) (take l.pool-index l.pool-items)
