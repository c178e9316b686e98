use Rattle.std.proofs.Common.{take}
use Rattle.law_sig.specs.Lists.{Each}
use Rattle.law_checking.specs.Planted.{IsBelow}
use Rattle.law_forest.proofs.forest.are_below.Given as goal

abbrev pub invariant-loop-term : goal.invariant-loop-term
invariant-loop-term l = Each (IsBelow l.sig l.from) (take l.term-index l.terms)
