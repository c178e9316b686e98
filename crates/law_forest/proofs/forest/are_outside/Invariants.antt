use Rattle.std.proofs.Common.{take}
use Rattle.law_sig.specs.Lists.{Each}
use Rattle.law_checking.specs.Planted.{IsOutside}
use Rattle.law_forest.proofs.forest.are_outside.Given as goal

abbrev pub invariant-loop-term : goal.invariant-loop-term
invariant-loop-term l = Each (IsOutside l.sig l.from l.to) (take l.term-index l.terms)
