use Rattle.std.proofs.Common.{◌≡◌, ◌<◌, ◌+◌, ◌∷◌, ◌++◌, [], length, map, reverse, slice_index_or, ap, ◌∙◌, sym, subst, arith, length-append}
use Rattle.std.proofs.lemmas.List.{length-map}
use Rattle.law_sig.specs.Lists.{Each}
use Rattle.law_tree.specs.Looking.{root_node}
use Rattle.law_tree.specs.Nodes.{tree_of}
use Rattle.law_tree.specs.Listing.{shape_of}
use Rattle.law_tree.proofs.Listing.{lines_below, first_lines, item_of_map, at_within, turn_within, turn_lines, turn_left}
use Rattle.law_tree.proofs.shape.lines.Goals as goal
use Rattle.law_tree.proofs.shape.lines.Goals.{In-Ok}

pub loop-at-init : goal.loop-at-init
loop-at-init c =
    let (within, lines) = first_lines c.args.nodes.now c.in_ok-left.left.items c.in_ok-left.ensures in
    record { within = within; lines = ap (λ z. z ++ lines_below c.args.nodes.now (reverse c.in_ok-left.left.items)) c.new-lines.ensures ∙ lines }

-- the children that were read
kids_read : (c : In-Ok) → slice_index_or (map (λ v. v.items) c.in_ok-lists.lists.items) c.in-Some.at [] ≡ c.as_slice-kids.result.now
kids_read c =
    let lt = at_within c.args.nodes.now c.requires c.loop-at.lines (shape_of (tree_of c.args.nodes.now)) c.loop-at.left.items c.pop.new.self.items c.in-Some.at root_node c.in-Some.ensures.items
    c.loop-at.invariant.within c.loop-at.invariant.lines in
    let size = c.in_ok-lists.ensures.size in
    item_of_map (λ v. v.items) c.in_ok-lists.lists.items c.in-Some.at c.index.result.now [] (omega (arith, lt, size, length-map c.in_ok-lists.lists.items (λ v. v.items))) c.index.ensures
    ∙ sym c.as_slice-kids.ensures.value

pub loop-at-preserved : goal.loop-at-preserved
loop-at-preserved c = record {
  within = subst (λ z. Each (λ k. k < length c.args.nodes.now) z) (sym c.in-Ok.ensures.items)
      (turn_within c.args.nodes.now c.requires c.loop-at.lines (shape_of (tree_of c.args.nodes.now)) c.loop-at.left.items c.pop.new.self.items c.in-Some.at root_node c.in-Some.ensures.items
      c.loop-at.invariant.within c.loop-at.invariant.lines (map (λ v. v.items) c.in_ok-lists.lists.items) c.in_ok-lists.ensures c.as_slice-kids.result.now (kids_read c));
  lines =
      ap (λ z. c.push.new.self ++ lines_below c.args.nodes.now (reverse z)) c.in-Ok.ensures.items
      ∙ ap (λ z. z ++ lines_below c.args.nodes.now (reverse (c.pop.new.self.items ++ c.as_slice-kids.result.now))) (c.in_ok-push.ensures.ok ∙ ap (λ z. c.loop-at.lines ++ z ∷ []) c.line.ensures)
      ∙ turn_lines c.args.nodes.now c.requires c.loop-at.lines (shape_of (tree_of c.args.nodes.now)) c.loop-at.left.items c.pop.new.self.items c.in-Some.at root_node c.in-Some.ensures.items
      c.loop-at.invariant.within c.loop-at.invariant.lines (map (λ v. v.items) c.in_ok-lists.lists.items) c.in_ok-lists.ensures c.as_slice-kids.result.now (kids_read c);
}

pub loop-at-smaller : goal.loop-at-smaller
loop-at-smaller c =
    let lt = turn_left c.args.nodes.now c.requires c.loop-at.lines (shape_of (tree_of c.args.nodes.now)) c.loop-at.left.items c.pop.new.self.items c.in-Some.at root_node c.in-Some.ensures.items
    c.loop-at.invariant.within c.loop-at.invariant.lines in
    let size : length c.push.new.self ≡ length c.loop-at.lines + 1 = ap (λ z. length z) c.in_ok-push.ensures.ok ∙ length-append c.loop-at.lines (c.line.result ∷ []) in
    omega arith
