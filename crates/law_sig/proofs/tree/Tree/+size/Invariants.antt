use Rattle.std.proofs.Common.{map, drop}
use Rattle.law_sig.specs.Trees.{node_count}
use Rattle.law_sig.proofs.SizeFacts.{Counted}
use Rattle.law_sig.proofs.tree.Tree.+size.Given as goal

abbrev pub invariant-loop-arg : goal.invariant-loop-arg
invariant-loop-arg l = Counted l.count (drop l.arg-index (map node_count l.arg-items)) (node_count l.self)
