use Rattle.std.proofs.Common.{◌≡◌, take, map}
use Rattle.law_sig.specs.Trees.{substituted}
use Rattle.law_sig.specs.Chains.{bound_in}
use Rattle.law_replay.specs.Terms.{meaning}
use Rattle.law_replay.proofs.term.unders.Given as goal

abbrev pub invariant-loop-side : goal.invariant-loop-side
invariant-loop-side l = map meaning l.items.items ≡ map (substituted (bound_in l.binds)) (take l.side-index l.sides)
