use Rattle.std.proofs.Common.{take}
use Rattle.law_testing.specs.Values.{Both}
use Rattle.law_explore.specs.Values.{HasClass}
use Rattle.law_explore.proofs.classes.classes_at.Given as goal

abbrev pub invariant-loop-term : goal.invariant-loop-term
invariant-loop-term l = Both (HasClass l.table l.classes) (take l.term-index l.terms) l.found
