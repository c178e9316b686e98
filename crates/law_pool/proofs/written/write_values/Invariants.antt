use Rattle.std.proofs.Common.{◌≡◌, take}
use Rattle.law_ids.specs.Values.{trees_of}
use Rattle.law_pool.proofs.written.write_values.Given as goal

abbrev pub invariant-loop-value : goal.invariant-loop-value
invariant-loop-value l = l.trees ≡ trees_of l.bank (take l.value-index l.values)
