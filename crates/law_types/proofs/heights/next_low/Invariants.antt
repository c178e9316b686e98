use Rattle.std.proofs.Common.{take}
use Rattle.law_types.specs.Heights.{AreMarked}
use Rattle.law_types.proofs.heights.next_low.Given as goal

abbrev pub invariant-loop-symbol : goal.invariant-loop-symbol
invariant-loop-symbol l = AreMarked l.text l.height (take l.symbol-index l.symbol-items) l.next.items
