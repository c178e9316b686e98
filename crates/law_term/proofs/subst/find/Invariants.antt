use Rattle.law_term.proofs.Bound.{FoundFrom}
use Rattle.law_term.proofs.subst.find.Given as goal

abbrev pub invariant-loop-at : goal.invariant-loop-at
invariant-loop-at l = FoundFrom l.sort l.index l.bindings l.at
