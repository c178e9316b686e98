use Rattle.std.proofs.Common.{◌≡◌, take, map}
use Rattle.law_sig.specs.Trees.{substituted}
use Rattle.law_sig.specs.Chains.{bound_in}
use Rattle.law_replay.specs.Terms.{meaning}
use Rattle.law_replay.proofs.term.+matches.Given as goal

abbrev pub invariant-loop-at : goal.invariant-loop-at
invariant-loop-at l = map meaning (take l.at l.parts) ≡ map (substituted (bound_in l.binds)) (take l.at l.arg-items)
