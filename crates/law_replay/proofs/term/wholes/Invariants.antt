use Rattle.std.proofs.Common.{◌≡◌, take, map}
use Rattle.law_replay.specs.Terms.{meaning}
use Rattle.law_replay.proofs.term.wholes.Given as goal

abbrev pub invariant-loop-tree : goal.invariant-loop-tree
invariant-loop-tree l = map meaning l.items.items ≡ take l.tree-index l.trees
