use Rattle.std.proofs.Common.{◌≡◌, take}
use Rattle.law_explore.specs.Named.{named_pools}
use Rattle.law_explore.proofs.named.named_pools.Given as goal

abbrev pub invariant-loop-pool : goal.invariant-loop-pool
invariant-loop-pool l = l.found ≡ named_pools l.sig (take l.pool-index l.pools)
