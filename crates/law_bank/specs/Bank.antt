-- A bank of shared terms, and what makes a node a term of it.
use Rattle.std.specs.Prelude.{◌≡◌, ℕ, ◌<◌, ◌-◌, ◌^◌, List, ◌++◌, min, Some, slice_get, slice_index_or}
use denote.Bor.{Bor}
use Rattle.law_sig.specs.Lists.{Each}
use Rattle.law_sig.specs.Trees.{node_count}
use Rattle.law_sig.specs.Tests.{weight}
use Rattle.law_sig.specs.declared.tree.SortId.{SortId}
use Rattle.law_sig.specs.declared.tree.Tree.{Tree}
use Rattle.law_sig.specs.declared.parts.SigParts.{SigParts}
use Rattle.law_rewriting.specs.Heads.{Sorts, head_sort}
use Rattle.law_bank.specs.declared.node.Node.{Node, Node-F, every-Node, roll-Node}
use Rattle.law_bank.specs.Terms.{tree_of, id_of, Fits}

-- a bank: the result sort and the weight of each symbol by its number, and the tree of each id
pub record Terms : Type 0 where
  pub sorts : List SortId
  pub weights : List ℕ
  pub trees : List Tree

-- the result sort of each symbol, and the first sort where none is given
abbrev pub sorts_by : List SortId → Sorts
sorts_by sorts f = slice_index_or sorts f.0 (record { 0 = 0 })

-- the greatest number of 64 bits stands for itself and for all that are greater
abbrev pub capped : ℕ → ℕ
capped n = min n (2 ^ 64 - 1)

-- one level of a term of the bank: its tree has its id, and it tells the tree's size, weight and sort; the weight is that of
-- every signature that has these weights
pub record IsHere (bank : Terms) (n : Node-F Node) : Type 0 where
  pub named : slice_get bank.trees n.id ≡ Some (tree_of (roll-Node n))
  pub fits : Fits n.head n.args.now
  pub earlier : Each (λ (b : Bor Node). id_of b.now < n.id) n.args.now
  pub size : n.size ≡ capped (node_count (tree_of (roll-Node n)))
  pub weight : (parts : SigParts) → parts.settings.weights ≡ bank.weights → n.weight ≡ capped (weight parts (tree_of (roll-Node n)))
  pub sort : n.sort ≡ head_sort (sorts_by bank.sorts) (tree_of (roll-Node n))

-- a term of the bank
abbrev pub IsOf : Terms → Node → Type 0
IsOf bank n = every-Node (IsHere bank) n

abbrev pub AllOf : Terms → List (Bor Node) → Type 0
AllOf bank terms = Each (λ (b : Bor Node). IsOf bank b.now) terms

-- no tree has two ids
abbrev pub IsShared : Terms → Type 0
IsShared bank = (i j : ℕ) (t : Tree) → slice_get bank.trees i ≡ Some t → slice_get bank.trees j ≡ Some t → i ≡ j

-- the bank with some more trees
abbrev pub with_trees : Terms → List Tree → Terms
with_trees bank more = record { sorts = bank.sorts; weights = bank.weights; trees = bank.trees ++ more }

-- every old id keeps its tree, and every symbol its sort and weight
abbrev pub Grows : Terms → Terms → Type 0
Grows old new = (more : List Tree) × (new ≡ with_trees old more)
