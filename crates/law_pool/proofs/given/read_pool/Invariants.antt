use Rattle.std.proofs.Common.{take}
use Rattle.law_ids.specs.Values.{AreOf, trees_of}
use Rattle.law_ids.proofs.Reading.{Reads}
use Rattle.law_pool.proofs.given.read_pool.Given as goal

abbrev pub invariant-loop-values : goal.invariant-loop-values
invariant-loop-values l = Reads AreOf trees_of l.initial.bank l.bank l.sorts (take l.values-index l.pool)
