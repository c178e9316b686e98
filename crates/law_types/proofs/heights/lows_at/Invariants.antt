use Rattle.law_types.specs.Heights.{AreLow}
use Rattle.law_types.proofs.heights.lows_at.Given as goal

abbrev pub invariant-loop-at : goal.invariant-loop-at
invariant-loop-at l = AreLow l.text l.at l.lows.items
