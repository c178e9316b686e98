use Rattle.std.proofs.Common.{◌≡◌, take}
use Rattle.law_named.specs.Named.{pool_named}
use Rattle.law_check.proofs.pools.is_pool.Given as goal

abbrev pub invariant-loop-at : goal.invariant-loop-at
invariant-loop-at l = take l.at (pool_named l.names 0 l.written) ≡ take l.at l.pool
