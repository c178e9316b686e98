use Rattle.law_sig.specs.Trees.{node_count}
use Rattle.law_bank.specs.Terms.{tree_of}
use Rattle.law_term.specs.Pairs.{StandFor}
use Rattle.law_term.proofs.order.compare_k.Given as goal

abbrev pub invariant-loop-below : goal.invariant-loop-below
invariant-loop-below l = StandFor l.a l.b l.both.left.now l.both.right.now

abbrev pub decreases-loop-below : goal.decreases-loop-below
decreases-loop-below l = node_count (tree_of l.both.left.now)
