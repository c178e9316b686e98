-- Terms as plain trees: size, depth, schema, holes and substitution. Each is a fold over the tree.
use Rattle.std.specs.Prelude.{ℕ, ◌+◌, ◌==◌, max, List, [], ◌∷◌, ◌++◌, if◌then◌else◌, Bool}
use Rattle.law_sig.specs.Lists.{total}
use Rattle.law_sig.specs.declared.tree.SortId.{SortId}
use Rattle.law_sig.specs.declared.tree.SymId.{SymId}
use Rattle.law_sig.specs.declared.tree.Tree.{Tree}
use Rattle.law_sig.specs.declared.tree.Tree.TheOpen.{Tree-F}
use Rattle.law_sig.specs.declared.tree.Tree.TheOpen as o
use Rattle.law_sig.specs.declared.tree.Tree.TheVariants.{Var, App}
use Rattle.law_sig.specs.declared.tree.Tree.TheFolds.{fold-Tree}

-- whether two ids are the same number
abbrev pub same_sort : SortId → SortId → Bool
same_sort s t = s.0 == t.0

abbrev pub same_symbol : SymId → SymId → Bool
same_symbol f g = f.0 == g.0

-- how many nodes a term has
abbrev pub nodes_step : Tree-F ℕ → ℕ
nodes_step (o.Var sort index) = 1
nodes_step (o.App head counts) = 1 + total counts

abbrev pub node_count : Tree → ℕ
node_count = fold-Tree ℕ nodes_step

-- the greatest of the numbers, and 0 where there is none
abbrev pub greatest : List ℕ → ℕ
greatest [] = 0
greatest (n ∷ ns) = max n (greatest ns)

-- an atom has depth 1, any other term 1 more than its deepest argument
abbrev pub depth_step : Tree-F ℕ → ℕ
depth_step (o.Var sort index) = 1
depth_step (o.App head depths) = 1 + greatest depths

abbrev pub depth : Tree → ℕ
depth = fold-Tree ℕ depth_step

-- the schema of a term: every variable's index set to 0
abbrev pub schema_step : Tree-F Tree → Tree
schema_step (o.Var sort index) = Var sort 0
schema_step (o.App head args) = App head args

abbrev pub schema_of : Tree → Tree
schema_of = fold-Tree Tree schema_step

-- the lists, one after another
abbrev pub joined : {A : Type 0} → List (List A) → List A
joined [] = []
joined (xs ∷ more) = xs ++ joined more

-- the indices of a sort's variables in a term, from left to right, each as often as it stands there
abbrev pub holes_step : SortId → Tree-F (List ℕ) → List ℕ
holes_step sort (o.Var s index) = if same_sort s sort then index ∷ [] else []
holes_step sort (o.App head parts) = joined parts

abbrev pub holes : SortId → Tree → List ℕ
holes sort = fold-Tree (List ℕ) (holes_step sort)

-- a substitution gives a term for every variable
abbrev pub Subst : Type 0
Subst = SortId → ℕ → Tree

abbrev pub subst_step : Subst → Tree-F Tree → Tree
subst_step σ (o.Var sort index) = σ sort index
subst_step σ (o.App head args) = App head args

-- the term with each variable replaced
abbrev pub substituted : Subst → Tree → Tree
substituted σ = fold-Tree Tree (subst_step σ)
