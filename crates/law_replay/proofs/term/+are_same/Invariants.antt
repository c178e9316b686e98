use Rattle.std.proofs.Common.{◌≡◌, take, map}
use Rattle.law_sig.specs.Trees.{substituted}
use Rattle.law_sig.specs.Chains.{bound_in}
use Rattle.law_replay.proofs.term.+are_same.Given as goal

abbrev pub invariant-loop-at : goal.invariant-loop-at
invariant-loop-at l = map (substituted (bound_in l.binds)) (take l.at l.arg-items) ≡ map (substituted (bound_in l.others)) (take l.at l.parts)
