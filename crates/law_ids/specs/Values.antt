-- The words in which contracts speak of a bank: the list of its trees, each at the place that its id names.
use Rattle.std.specs.Prelude.{◌≡◌, ◌<◌, ◌^◌, ◌⊎◌, List, [], ◌∷◌, ◌++◌, length, map, Bool, false, ◌&&◌, nat_lt, Option, Some, None, slice_index_or}
use Rattle.std.specs.List.{list_all}
use Rattle.law_sig.specs.Lists.{Each}
use Rattle.law_sig.specs.declared.tree.SymId.{SymId}
use Rattle.law_sig.specs.declared.tree.Tree.{Tree}
use Rattle.law_sig.specs.declared.tree.Tree.TheOpen.{Tree-F}
use Rattle.law_sig.specs.declared.tree.Tree.TheOpen as o
use Rattle.law_sig.specs.declared.tree.Tree.TheVariants.{Var}
use Rattle.law_sig.specs.declared.tree.Tree.TheViews.{out-Tree}
use Rattle.law_sig.specs.declared.tree.Tree.TheFolds.{fold-Tree}
use Rattle.law_ids.specs.declared.ids.ValueId.{ValueId}

-- an id of the bank
abbrev pub IsOf : List Tree → ValueId → Type 0
IsOf bank v = v.0 < length bank

abbrev pub AreOf : List Tree → List ValueId → Type 0
AreOf bank ids = Each (IsOf bank) ids

-- what stands for the tree of an id that isn't of the bank
abbrev pub no_tree : Tree
no_tree = Var (record { 0 = 0 }) 0

-- the tree of an id
abbrev pub tree_of : List Tree → ValueId → Tree
tree_of bank v = slice_index_or bank v.0 no_tree

abbrev pub trees_of : List Tree → List ValueId → List Tree
trees_of bank ids = map (tree_of bank) ids

-- the symbol of a tree, and the trees below it
abbrev pub head_in : Tree-F Tree → Option SymId
head_in (o.Var sort index) = None
head_in (o.App head fields) = Some head

abbrev pub fields_in : Tree-F Tree → List Tree
fields_in (o.Var sort index) = []
fields_in (o.App head fields) = fields

abbrev pub head_of : Tree → Option SymId
head_of tree = head_in (out-Tree tree)

abbrev pub fields_of : Tree → List Tree
fields_of tree = fields_in (out-Tree tree)

-- no tree stands in the bank twice: ids are equal where their trees are
abbrev pub IsShared : List Tree → Type 0
IsShared bank = (a b : ValueId) → IsOf bank a → IsOf bank b → tree_of bank a ≡ tree_of bank b → a ≡ b

-- every id of the old bank keeps its tree
abbrev pub Grows : List Tree → List Tree → Type 0
Grows old new = (more : List Tree) × (new ≡ old ++ more)

-- the tree is added where the bank lacks it, and nothing else changes
abbrev pub Adds : List Tree → List Tree → Tree → Type 0
Adds old new tree = (new ≡ old) ⊎ (new ≡ old ++ tree ∷ [])

-- no variable stands in the tree, and no node has 2^32 fields or more
abbrev pub plain_step : Tree-F Bool → Bool
plain_step (o.Var sort index) = false
plain_step (o.App head below) = nat_lt (length below) (2 ^ 32) && list_all (λ b. b) below

abbrev pub is_plain : Tree → Bool
is_plain = fold-Tree Bool plain_step
