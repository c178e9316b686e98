use Rattle.std.proofs.Common.{◌≡◌, ◌++◌, take}
use Rattle.law_explore.proofs.explore.push_terms.Given as goal

abbrev pub invariant-loop-term : goal.invariant-loop-term
invariant-loop-term l = l.found ≡ l.initial.found ++ take l.term-index l.terms
