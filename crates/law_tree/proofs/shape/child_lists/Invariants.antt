use Rattle.std.proofs.Common.{◌≤◌, length, map}
use Rattle.law_tree.specs.Listing.{AreOf}
use Rattle.law_tree.proofs.Listing.{late_children}
use Rattle.law_tree.proofs.shape.child_lists.Given as goal

abbrev pub invariant-loop-at : goal.invariant-loop-at
invariant-loop-at l = record {
  within : l.at ≤ length l.nodes;
  lists : AreOf (late_children l.nodes l.at) (length l.nodes) (map (λ v. v.items) l.lists.items);
}

abbrev pub decreases-loop-at : goal.decreases-loop-at
decreases-loop-at l = l.at
