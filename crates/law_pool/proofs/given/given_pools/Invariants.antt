use Rattle.std.proofs.Common.{take, map}
use Rattle.law_sig.specs.Lists.{Each}
use Rattle.law_ids.specs.Values.{AreOf, trees_of}
use Rattle.law_ids.proofs.Reading.{Reads}
use Rattle.law_pool.proofs.given.given_pools.Given as goal

abbrev pub invariant-loop-pool : goal.invariant-loop-pool
invariant-loop-pool l = Reads (λ b xs. Each (AreOf b) xs) (λ b xs. map (trees_of b) xs) l.initial.bank l.bank l.pools (take l.pool-index l.pool-items)
