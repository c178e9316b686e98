-- A split tree, as contracts see it.
use Rattle.std.specs.Prelude.{ℕ, zero, suc, ◌≡◌, List, [], ◌∷◌, ◌++◌, length, slice_get, Some}
use Rattle.law_splits.specs.Rule.{IsTreeOf}
use Rattle.law_ids.specs.declared.ids.ValueId.{ValueId}
use Rattle.law_tree.specs.declared.nodes.Node.{Node}
use Rattle.law_tree.specs.Asking.{IsOneOf}
use Rattle.law_tree.specs.Nodes.{tree_of}

-- the allowed tests, the items in the order in which they were placed, and the nodes, which stand for a tree of the items' numbers
pub record Grown (T : Type 0) : Type 0 where
  pub tests : List ℕ
  pub items : List T
  pub nodes : List Node

-- the item with a number has a value at a test
abbrev pub numbered : {T : Type 0} → (T → ℕ → ValueId → Type 0) → List T → ℕ → ℕ → ValueId → Type 0
numbered {T} M items n test v = (x : T) × (slice_get items n ≡ Some x) × M x test v

-- the numbers below n, from 0
abbrev pub numbers_below : ℕ → List ℕ
numbers_below zero = []
numbers_below (suc n) = numbers_below n ++ n ∷ []

-- its tree is that of the placing rule, in which each child keeps the value that all items below it are meant to have
abbrev pub IsTree : {T : Type 0} → (T → ℕ → ValueId → Type 0) → Grown T → Type 0
IsTree M tree = IsTreeOf (IsOneOf tree.tests) (numbered M tree.items) (numbers_below (length tree.items)) (tree_of tree.nodes)
