-- What a walk and a look find, what a tree keeps about its children, and how nodes grow.
use Rattle.std.specs.Prelude.{ℕ, ◌≡◌, ◌≤◌, ◌<◌, ◌+◌, ◌↔◌, List, [], ◌∷◌, ◌++◌, slice_get, slice_set, Option, Some, None, Bool, ◌&&◌, nat_eq}
use Rattle.law_sig.specs.Lists.{Rising}
use Rattle.law_ids.specs.declared.ids.ValueId.{ValueId}
use Rattle.law_tree.specs.declared.compare.Difference.{Difference}
use Rattle.law_tree.specs.declared.nodes.Node.{Node}
use Rattle.law_tree.specs.declared.nodes.Edge.{Edge}
use Rattle.law_tree.specs.declared.nodes.Spot.TheVariants.{Leaf, Split}
use Rattle.law_tree.specs.declared.look.End.{End}
use Rattle.law_tree.specs.declared.look.End.TheVariants as end
use Rattle.law_tree.specs.declared.look.Look.{Look}
use Rattle.law_tree.specs.declared.look.Look.TheVariants as look
use Rattle.law_tree.specs.Comparing.{IsTold}
use Rattle.law_tree.specs.Nodes.{IsSpot, IsChild, AreNodes}
use Rattle.law_tree.specs.Grown.{Grown}
use Rattle.law_tree.specs.Finding.{IsSame, IsOther}

-- whether two keys are the same place and value
abbrev pub same_key : ℕ × ℕ → ℕ × ℕ → Bool
same_key p q = nat_eq p.0 q.0 && nat_eq p.1 q.1

-- what is found for a place and a value is the place of the child with that value
abbrev pub Finds : List Node → (ℕ × ℕ → Option ℕ) → Type 0
Finds nodes found = (p c : ℕ) (v : ValueId) → IsChild nodes p c v ↔ (found (p, v.0) ≡ Some c)

-- the child that is found for a value, where there is one
abbrev pub FindsChild : List Node → ℕ → ValueId → Option ℕ → Type 0
FindsChild nodes p v None = (c : ℕ) → IsChild nodes p c v → ⊥
FindsChild nodes p v (Some c) = IsChild nodes p c v

pub record IsSound (tests : List ℕ) (nodes : List Node) (found : ℕ × ℕ → Option ℕ) : Type 0 where
  pub rising : Rising (λ n m. n < m) tests
  pub are : AreNodes nodes
  pub finds : Finds nodes found

-- no two children of a split have one value
abbrev pub AreApart : List Node → Type 0
AreApart nodes = (p c d : ℕ) (v : ValueId) → IsChild nodes p c v → IsChild nodes p d v → c ≡ d

-- the way of an item from the root comes to this place by so many splits
pub data Reaches {T : Type 0} (M : T → ℕ → ValueId → Type 0) (item : T) (nodes : List Node) : ℕ → ℕ → Type 0 where
  here : Reaches M item nodes 0 0
  down : (p c test m : ℕ) (v : ValueId) → Reaches M item nodes p m → IsSpot nodes p (Split test) → M item test v → IsChild nodes p c v → Reaches M item nodes c (m + 1)

module _ {T : Type 0} (M : T → ℕ → ValueId → Type 0) (item : T) (tree : Grown T) where
  -- it ends at a split that has no child for it
  pub record IsAtSplit (at : ℕ) (v : ValueId) : Type 0 where
    pub splits : ℕ
    pub way : Reaches M item tree.nodes at splits
    pub test : ℕ
    pub split : IsSpot tree.nodes at (Split test)
    pub has : M item test v
    pub nowhere : (c : ℕ) → IsChild tree.nodes at c v → ⊥

  -- it ends at a leaf
  pub record IsAtLeaf (at n : ℕ) : Type 0 where
    pub splits : ℕ
    pub way : Reaches M item tree.nodes at splits
    pub leaf : IsSpot tree.nodes at (Leaf n)

  abbrev pub IsEnd : ℕ → ℕ → End → Type 0
  IsEnd before now (end.Split at v) = (h : IsAtSplit at v) × (now ≤ before + (h.splits + 1))
  IsEnd before now (end.Leaf at n) = (h : IsAtLeaf at n) × (now ≤ before + h.splits)

  -- where a walk was stopped: at a split, whose question was the last one
  pub record IsStopped (before now : ℕ) : Type 0 where
    pub place : ℕ
    pub splits : ℕ
    pub way : Reaches M item tree.nodes place splits
    pub test : ℕ
    pub split : IsSpot tree.nodes place (Split test)
    pub few : now ≤ before + (splits + 1)

  -- it ends at a leaf, whose item differs
  pub record IsApart (at number : ℕ) (d : Difference) : Type 0 where
    pub end : IsAtLeaf at number
    pub old : T
    pub is : slice_get tree.items number ≡ Some old
    pub told : IsTold M item old tree.tests d

  abbrev pub IsLooked : Look → Type 0
  IsLooked look.Empty = (tree.nodes ≡ []) × IsOther M item tree
  IsLooked (look.Same n) = IsSame M item tree n
  IsLooked (look.Child at v) = IsAtSplit at v × IsOther M item tree
  IsLooked (look.Apart at n d) = IsApart at n d × IsOther M item tree

-- Growing

-- the leaf of an item, below a node
abbrev pub leaf_node : ℕ → ValueId → ℕ → Node
leaf_node above v n = let e : Edge = record { above = above; value = v } in record { edge = Some e; spot = Leaf n }

-- a node, but with a split at it
abbrev pub split_node : Node → ℕ → Node
split_node x test = record { edge = x.edge; spot = Split test }

-- the nodes where the leaf of the item `number` became a split, with the leaves of this item and of the item n below it
pub record IsSplitLeaf (nodes after : List Node) (at number n : ℕ) (d : Difference) : Type 0 where
  pub node : Node
  pub is : slice_get nodes at ≡ Some node
  pub nodes_are : after ≡ (slice_set nodes at (split_node node d.test) ++ leaf_node at d.old number ∷ []) ++ leaf_node at d.new n ∷ []

-- the tree of one item
abbrev pub root_node : Node
root_node = record { edge = None; spot = Leaf 0 }
