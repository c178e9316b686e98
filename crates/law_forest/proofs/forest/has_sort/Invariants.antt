use Rattle.std.proofs.Common.{take}
use Rattle.law_sig.specs.Lists.{Each}
use Rattle.law_checking.specs.Planted.{IsOfSort}
use Rattle.law_forest.proofs.forest.has_sort.Given as goal

abbrev pub invariant-loop-term : goal.invariant-loop-term
invariant-loop-term l = Each (λ t. IsOfSort l.sig l.sort t → ⊥) (take l.term-index l.terms)
