-- A tree that is kept flat: a list of nodes, the root first. Every other node has an edge, to the split above it, with the value
-- that its items have there.
use Rattle.std.specs.Prelude.{ℕ, suc, ◌≡◌, ◌<◌, ◌==◌, if◌then◌else◌, List, [], ◌∷◌, map, slice_get, Option, Some, None, option_and_then}
use Rattle.law_splits.specs.Splits.{Split, Kids}
use Rattle.law_splits.specs.Splits.Split.{leaf, split}
use Rattle.law_splits.specs.Splits.Kids.{none, kid}
use Rattle.law_ids.specs.declared.ids.ValueId.{ValueId}
use Rattle.law_tree.specs.declared.nodes.Edge.{Edge}
use Rattle.law_tree.specs.declared.nodes.Node.{Node}
use Rattle.law_tree.specs.declared.nodes.Spot.{Spot}
use Rattle.law_tree.specs.declared.nodes.Spot.TheVariants as spot

abbrev pub edges_of : List Node → List (Option Edge)
edges_of nodes = map (λ (n : Node). n.edge) nodes

abbrev pub spots_of : List Node → List Spot
spots_of nodes = map (λ (n : Node). n.spot) nodes

-- the value of an edge to this place
abbrev pub edge_to : ℕ → Option Edge → Option ValueId
edge_to p None = None
edge_to p (Some e) = if e.above == p then Some e.value else None

-- what stands at a place
abbrev pub IsSpot : List Node → ℕ → Spot → Type 0
IsSpot nodes k s = slice_get (spots_of nodes) k ≡ Some s

-- the node at c is a child of the one at p, with this value
abbrev pub IsChild : List Node → ℕ → ℕ → ValueId → Type 0
IsChild nodes p c v = option_and_then (edge_to p) (slice_get (edges_of nodes) c) ≡ Some v

-- The tree that the nodes stand for

abbrev pub grown : Spot → Kids ℕ ValueId → Split ℕ ValueId
grown (spot.Leaf number) kids = leaf number
grown (spot.Split test) kids = split test kids

abbrev pub hung : Option ValueId → Split ℕ ValueId → Kids ℕ ValueId → Kids ℕ ValueId
hung None tree others = others
hung (Some v) tree others = kid v tree others

-- the children of the node at p among these nodes, the first of which stands at k; whatever is below a node comes after it
abbrev pub kids_from : ℕ → List Node → ℕ → Kids ℕ ValueId
kids_from k [] p = none
kids_from k (n ∷ ns) p = hung (edge_to p n.edge) (grown n.spot (kids_from (suc k) ns k)) (kids_from (suc k) ns p)

abbrev pub tree_of : List Node → Option (Split ℕ ValueId)
tree_of [] = None
tree_of (root ∷ others) = Some (grown root.spot (kids_from 1 others 0))

-- a split stands there
abbrev pub HasTest : List Node → ℕ → Type 0
HasTest nodes k = (test : ℕ) × IsSpot nodes k (spot.Split test)

-- what makes nodes a tree: children stand after the splits above them
pub record AreNodes (nodes : List Node) : Type 0 where
  pub later : (p c : ℕ) (v : ValueId) → IsChild nodes p c v → p < c
  pub below_splits : (p c : ℕ) (v : ValueId) → IsChild nodes p c v → HasTest nodes p
