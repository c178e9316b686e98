use Rattle.std.proofs.Common.{◌≡◌, ◌-◌, [], length, map, sym, subst, arith}
use Rattle.std.proofs.lemmas.List.{length-map}
use Rattle.law_tree.specs.Listing.{AreOf}
use Rattle.law_tree.specs.Looking.{root_node}
use Rattle.law_tree.proofs.Listing.{late_children, no_late_children, are_same, before_child, before_with, before_without}
use Rattle.law_tree.proofs.shape.child_lists.Goals as goal

pub loop-at-init : goal.loop-at-init
loop-at-init c = record {
  within = omega arith;
  lists = are_same (λ _. []) (late_children c.args.nodes.now (length c.args.nodes.now)) (length c.args.nodes.now) _ c.in_ok-lists.ensures (λ k lt. sym (no_late_children c.args.nodes.now (length c.args.nodes.now) k (omega arith)));
}

pub add-requires : goal.add-requires
add-requires c =
    let child = before_child c.args.nodes.now root_node c.loop-at.at c.loop-at-test.true c.loop-at.invariant.within c.in-Some.edge c.in-Some.is in
    let lt = c.requires.later c.in-Some.edge.above (c.loop-at.at - 1) c.in-Some.edge.value child in
    let size = c.loop-at.invariant.lists.size in
    let within = c.loop-at.invariant.within in
    omega (arith, length-map c.loop-at.lists.items (λ v. v.items))

pub returns : goal.returns
returns c =
    let zero_at : c.loop-at.at ≡ 0 = omega (arith, c.loop-at-test.false) in
    subst (λ z. AreOf (late_children c.args.nodes.now z) (length c.args.nodes.now) (map (λ v. v.items) c.loop-at.lists.items)) zero_at c.loop-at.invariant.lists

pub loop-at-preserved : goal.loop-at-preserved
loop-at-preserved c = record {
  within = let h = c.loop-at.invariant.within in omega arith;
  lists = before_without c.args.nodes.now root_node c.loop-at.at c.loop-at-test.true c.loop-at.invariant.within (length c.args.nodes.now) _ c.in_default.is c.loop-at.invariant.lists;
}

pub loop-at-preserved-in-Continue-branch-2 : goal.loop-at-preserved-in-Continue-branch-2
loop-at-preserved-in-Continue-branch-2 c =
    let child = before_child c.args.nodes.now root_node c.loop-at.at c.loop-at-test.true c.loop-at.invariant.within c.in-Some.edge c.in-Some.is in
    let lt = c.requires.later c.in-Some.edge.above (c.loop-at.at - 1) c.in-Some.edge.value child in
    let within = c.loop-at.invariant.within in
    record {
      within = omega arith;
      lists = subst (λ z. AreOf (late_children c.args.nodes.now (c.loop-at.at - 1)) (length c.args.nodes.now) z) (sym c.in_ok-add.ensures)
          (before_with c.args.nodes.now root_node c.loop-at.at c.loop-at-test.true within (length c.args.nodes.now) _ c.in-Some.edge c.in-Some.is (omega arith) c.loop-at.invariant.lists);
    }
