use Rattle.std.proofs.Common.{◌≡◌, map, take}
use Rattle.law_ids.specs.Values.{trees_of}
use Rattle.law_pool.proofs.written.write_pool.Given as goal

abbrev pub invariant-loop-values : goal.invariant-loop-values
invariant-loop-values l = l.sorts ≡ map (trees_of l.bank) (take l.values-index l.pool)
