use Rattle.std.proofs.Common.{◌≡◌, drop}
use Rattle.law_typing.specs.LineFaults.{each_value_fault}
use Rattle.law_types.proofs.tail.each_value_fault.Given as goal

abbrev pub invariant-loop-value : goal.invariant-loop-value
invariant-loop-value l = each_value_fault l.text l.sort (drop l.value-index l.values) ≡ each_value_fault l.text l.sort l.values
