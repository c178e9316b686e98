-- The tree that a node stands for.
use Rattle.std.specs.Prelude.{◌≡◌, ℕ, List, [], map}
use denote.Bor.{Bor}
use Rattle.law_sig.specs.declared.tree.Tree.{Tree}
use Rattle.law_sig.specs.declared.tree.Tree.TheVariants as tree
use Rattle.law_bank.specs.declared.node.Head.{Head}
use Rattle.law_bank.specs.declared.node.Head.TheVariants.{Var, Sym}
use Rattle.law_bank.specs.declared.node.Node.{Node, Node-F, fold-Node, out-Node}

-- the tree with this head over these trees; a variable has none below it
abbrev pub tree_at : Head → List Tree → Tree
tree_at (Var sort index) below = tree.Var sort index
tree_at (Sym symbol) below = tree.App symbol below

abbrev pub tree_step : Node-F Tree → Tree
tree_step n = tree_at n.head (map (λ (b : Bor Tree). b.now) n.args.now)

-- the tree of a node
abbrev pub tree_of : Node → Tree
tree_of = fold-Node Tree tree_step

abbrev pub id_of : Node → ℕ
id_of n = (out-Node n).id

-- the trees of several terms, and their ids
abbrev pub trees_of : List (Bor Node) → List Tree
trees_of terms = map (λ (b : Bor Node). tree_of b.now) terms

abbrev pub ids_of : List (Bor Node) → List ℕ
ids_of terms = map (λ (b : Bor Node). id_of b.now) terms

-- a variable has no arguments
abbrev pub Fits : {A : Type 0} → Head → List A → Type 0
Fits (Var sort index) args = args ≡ []
Fits (Sym symbol) args = Unit {0}
