use Rattle.std.proofs.Common.{◌≡◌, ℕ, ◌<◌}
use Rattle.law_sig.specs.Tests.{digit}
use Rattle.law_sig.specs.declared.parts.SigParts.{SigParts}
use Rattle.law_ids.specs.Table.{IsFor}
use Rattle.law_pool.proofs.pools.Pools.reads_one_place.Given as goal

abbrev pub invariant-loop-index : goal.invariant-loop-index
invariant-loop-index l = (parts : SigParts) → IsFor parts l.self → (i : ℕ) → i < l.index → digit parts l.test l.sort i ≡ digit parts l.test l.sort 0
