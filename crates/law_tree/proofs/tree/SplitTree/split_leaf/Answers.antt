use Rattle.std.proofs.Common.{◌≡◌, ◌∙◌, ◌++◌, ◌∷◌, [], ap, subst, sym, length, refl, slice_set, arith}
use Rattle.std.specs.HashMap.{get}
use Rattle.std.specs.Map.{lookup}
use Rattle.law_tree.specs.declared.nodes.Spot.TheVariants.{Leaf}
use Rattle.law_tree.specs.Nodes.{IsSpot}
use Rattle.law_tree.specs.Grown.{Grown}
use Rattle.law_tree.specs.Looking.{IsSplitLeaf, same_key, leaf_node, split_node}
use Rattle.law_tree.proofs.Standing.{spot_within, node_read}
use Rattle.law_tree.proofs.Keeping.{sound_same, leaves_sound}
use Rattle.law_tree.proofs.tree.SplitTree.split_leaf.Goals as goal
use Rattle.law_tree.proofs.tree.SplitTree.split_leaf.Goals.{In-Ok-push-3}

pub put-requires : goal.put-requires
put-requires g c =
    let spot : IsSpot c.self.inside.nodes.items c.args.at (Leaf c.args.number) = subst (λ (z : Grown g.row.T.Denot). IsSpot z.nodes c.args.at (Leaf c.args.number)) (sym c.self.view_is) c.requires.leaf in
    let lt = spot_within c.self.inside.nodes.items c.args.at (Leaf c.args.number) spot in
    let same : length c.reserve-2.new.self.items ≡ length c.self.inside.nodes.items = ap (λ z. length z) c.reserve-2.ensures.items in
    omega arith

pub invariant_of-self-in_default-reserve-2 : goal.invariant_of-self-in_default-reserve-2
invariant_of-self-in_default-reserve-2 g c =
    sound_same c.self.inside.tests c.self.inside.tests c.self.inside.nodes.items _ (get same_key c.self.inside.children) _ c.self.invariant refl c.reserve-2.ensures.items
    (λ q. ap (λ z. lookup (same_key q) z) c.in_default-reserve-2.ensures.err)

-- the node whose leaf becomes a split, and all nodes after that
leaf_here : (g : _) (c : In-Ok-push-3 g) → IsSpot c.self.inside.nodes.items c.args.at (Leaf c.args.number)
leaf_here g c = subst (λ (z : Grown g.row.T.Denot). IsSpot z.nodes c.args.at (Leaf c.args.number)) (sym c.self.view_is) c.requires.leaf

nodes_after : (g : _) (c : In-Ok-push-3 g)
    → c.push-3.new.self.items ≡ (slice_set c.self.inside.nodes.items c.args.at (split_node c.index.result.now c.args.difference.test) ++ leaf_node c.args.at c.args.difference.old c.args.number ∷ []) ++ leaf_node c.args.at c.args.difference.new c.len-new_number.result ∷ []
nodes_after g c =
    c.in-Ok-push-3.ensures.items ∙ ap (λ z. c.push-2.new.self.items ++ z ∷ []) c.leaf_at-2.ensures
    ∙ ap (λ z. z ++ leaf_node c.args.at c.args.difference.new c.len-new_number.result ∷ [])
    (c.in-Ok-push-2.ensures.items ∙ ap (λ z. c.put.new.nodes.items ++ z ∷ []) c.leaf_at.ensures
    ∙ ap (λ z. z ++ leaf_node c.args.at c.args.difference.old c.args.number ∷ [])
    (c.put.ensures.items ∙ ap (λ z. slice_set z c.args.at (split_node c.index.result.now c.args.difference.test)) c.reserve-2.ensures.items))

pub invariant_of-self-2 : goal.invariant_of-self-2
invariant_of-self-2 g c =
    let x = c.index.result.now in
    let read = node_read c.self.inside.nodes.items c.args.at (Leaf c.args.number) x (leaf_here g c) c.index.ensures in
    leaves_sound c.self.inside.tests c.self.inside.tests c.self.inside.nodes.items _ c.args.at c.args.number c.len-new_number.result c.len-new_number.result c.len-child.result c.args.difference x read.0 read.1 c.requires.differ
    (get same_key c.self.inside.children) (get same_key c.reserve-3.new.self) (get same_key c.insert.new.self) _ c.self.invariant refl refl (c.len-child.ensures ∙ c.self.inside.nodes.ok.0)
    (nodes_after g c)
    c.reserve-3.ensures.entries.2 c.in-Ok-insert.ensures.updates.0 c.in-Ok-insert-2.ensures.updates.0

pub returns-clause-nodes : goal.returns-clause-nodes
returns-clause-nodes g c =
    let x = c.index.result.now in
    let read = node_read c.self.inside.nodes.items c.args.at (Leaf c.args.number) x (leaf_here g c) c.index.ensures in
    subst (λ (z : Grown g.row.T.Denot). IsSplitLeaf z.nodes c.push-3.new.self.items c.args.at c.args.number (length z.items) c.args.difference) c.self.view_is
    (record {
      node = x;
      is = read.0;
      nodes_are = nodes_after g c
          ∙ ap (λ z. (slice_set c.self.inside.nodes.items c.args.at (split_node x c.args.difference.test) ++ leaf_node c.args.at c.args.difference.old c.args.number ∷ []) ++ leaf_node c.args.at c.args.difference.new z ∷ [])
          (c.len-new_number.ensures ∙ c.self.inside.items.ok.0);
    })
