-- The lines of a tree, in prefix order, and how they are come by.
use Rattle.std.specs.Prelude.{ℕ, suc, ◌≡◌, ◌<◌, List, [], ◌∷◌, length, reverse, slice_get, Option, Some, None}
use Rattle.law_splits.specs.Splits.{Split, lines}
use Rattle.law_ids.specs.declared.ids.ValueId.{ValueId}
use Rattle.law_tree.specs.declared.nodes.Edge.{Edge}
use Rattle.law_tree.specs.declared.nodes.Node.{Node}
use Rattle.law_tree.specs.declared.nodes.Spot.{Spot}
use Rattle.law_tree.specs.declared.nodes.Spot.TheVariants as spot
use Rattle.law_tree.specs.declared.shape.Shape.{Shape}
use Rattle.law_tree.specs.declared.shape.Shape.TheVariants as shape
use Rattle.law_tree.specs.Nodes.{edge_to, edges_of}

-- a line for each split, of its test and the number of its children, and one for each leaf, of its number
abbrev pub shape_of : Option (Split ℕ ValueId) → List Shape
shape_of None = []
shape_of (Some tree) = lines shape.Split (λ number. shape.Leaf number ∷ []) tree

abbrev pub line_of : Spot → ℕ → Shape
line_of (spot.Leaf number) count = shape.Leaf number
line_of (spot.Split test) count = shape.Split test count

-- the places of the children of the node at p, in order, among the nodes with these edges, the first of which stands at k
abbrev pub kept : Option ValueId → ℕ → List ℕ → List ℕ
kept None k others = others
kept (Some v) k others = k ∷ others

abbrev pub children_from : ℕ → List (Option Edge) → ℕ → List ℕ
children_from k [] p = []
children_from k (e ∷ es) p = kept (edge_to p e) k (children_from (suc k) es p)

abbrev pub children : List Node → ℕ → List ℕ
children nodes p = children_from 0 (edges_of nodes) p

-- so many items, each of which is what f gives of its place
pub record AreOf {A : Type 0} (f : ℕ → A) (n : ℕ) (xs : List A) : Type 0 where
  pub size : length xs ≡ n
  pub each : (k : ℕ) → k < n → slice_get xs k ≡ Some (f k)

-- the places of the children of each node, the last one first
abbrev pub AreChildLists : List Node → List (List ℕ) → Type 0
AreChildLists nodes lists = AreOf (λ k. reverse (children nodes k)) (length nodes) lists
