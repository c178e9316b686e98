use Rattle.std.proofs.Common.{◌≡◌, ◌<◌, ◌-◌, ◌++◌, length, reverse}
use Rattle.law_sig.specs.Lists.{Each}
use Rattle.law_tree.specs.Nodes.{tree_of}
use Rattle.law_tree.specs.Listing.{shape_of}
use Rattle.law_tree.proofs.Listing.{lines_below}
use Rattle.law_tree.proofs.shape.lines.Given as goal

abbrev pub invariant-loop-at : goal.invariant-loop-at
invariant-loop-at l = record {
  within : Each (λ k. k < length l.nodes) l.left.items;
  lines : l.lines ++ lines_below l.nodes (reverse l.left.items) ≡ shape_of (tree_of l.nodes);
}

abbrev pub decreases-loop-at : goal.decreases-loop-at
decreases-loop-at l = length (shape_of (tree_of l.nodes)) - length l.lines
