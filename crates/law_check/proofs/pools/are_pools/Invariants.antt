use Rattle.std.proofs.Common.{◌≡◌, take}
use Rattle.law_named.specs.Named.{pools_named}
use Rattle.law_check.proofs.pools.are_pools.Given as goal

abbrev pub invariant-loop-at : goal.invariant-loop-at
invariant-loop-at l = take l.at (pools_named l.names l.written) ≡ take l.at l.pools
