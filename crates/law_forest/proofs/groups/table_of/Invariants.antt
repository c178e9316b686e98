use Rattle.std.proofs.Common.{◌≡◌, take}
use Rattle.law_forest.proofs.groups.table_of.Given as goal

abbrev pub invariant-loop-term : goal.invariant-loop-term
invariant-loop-term l = l.table ≡ take l.term-index l.terms
