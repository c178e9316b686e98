use Rattle.std.proofs.Common.{◌≡◌, ◌++◌, take}
use Rattle.law_explore.proofs.list.push_copies.Given as goal

abbrev pub invariant-loop-term : goal.invariant-loop-term
invariant-loop-term l = l.found ≡ l.initial.found ++ take l.term-index l.terms
