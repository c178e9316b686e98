use Rattle.law_types.specs.Valued.{AreTakers}
use Rattle.law_types.proofs.valued.takers.Given as goal

abbrev pub invariant-loop-number : goal.invariant-loop-number
invariant-loop-number l = AreTakers l.text l.number l.table.items
