use Rattle.std.proofs.Common.{◌<◌}
use Rattle.law_sig.specs.declared.tree.SortId.{SortId}
use Rattle.law_sig.specs.declared.parts.SigParts.{SigParts}
use Rattle.law_ids.specs.Table.{IsFor, ReadsOnePlace}
use Rattle.law_pool.proofs.pools.Pools.is_flat.Given as goal

abbrev pub invariant-loop-at : goal.invariant-loop-at
invariant-loop-at l = (parts : SigParts) → IsFor parts l.self → (sort : SortId) → sort.0 < l.at → ReadsOnePlace parts l.test sort
