use Rattle.std.proofs.Common.{take}
use Rattle.law_ids.specs.Values.{IsOf, tree_of}
use Rattle.law_ids.proofs.Reading.{Reads}
use Rattle.law_pool.proofs.given.read_values.Given as goal

abbrev pub invariant-loop-value : goal.invariant-loop-value
invariant-loop-value l = Reads IsOf tree_of l.initial.bank l.bank l.ids (take l.value-index l.values)
