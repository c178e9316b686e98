-- What a signature says of its sorts and symbols, and the sort of a term.
use Rattle.std.specs.Prelude.{ℕ, ◌+◌, List, [], ◌∷◌, length, Bool, true, false, ◌&&◌, if◌then◌else◌, nat_lt, Option, Some, None, slice_get, slice_index_or}
use Rattle.law_sig.specs.Trees.{same_sort}
use Rattle.law_sig.specs.declared.tree.SortId.{SortId}
use Rattle.law_sig.specs.declared.tree.SymId.{SymId}
use Rattle.law_sig.specs.declared.tree.Tree.{Tree}
use Rattle.law_sig.specs.declared.tree.Tree.TheOpen.{Tree-F}
use Rattle.law_sig.specs.declared.tree.Tree.TheOpen as o
use Rattle.law_sig.specs.declared.tree.Tree.TheFolds.{fold-Tree}
use Rattle.law_sig.specs.declared.parts.Sym.{Sym}
use Rattle.law_sig.specs.declared.parts.Sym.TheVariants as sym
use Rattle.law_sig.specs.declared.parts.SigParts.{SigParts}

-- whether a sort is declared
abbrev pub is_declared_sort : SigParts → SortId → Bool
is_declared_sort parts sort = nat_lt sort.0 (length parts.sort_names)

-- the declaration of a symbol
abbrev pub symbol_at : SigParts → SymId → Option Sym
symbol_at parts f = slice_get parts.symbols f.0

-- the sorts of a symbol's arguments, and the sort of its result
abbrev pub args_of : Sym → List SortId
args_of (sym.Con con) = con.args
args_of (sym.Fun fun) = fun.args

abbrev pub result_of : Sym → SortId
result_of (sym.Con con) = con.sort
result_of (sym.Fun fun) = fun.result

-- whether a symbol is a constructor of this sort
abbrev pub makes_sort : SortId → Sym → Bool
makes_sort sort (sym.Con con) = same_sort con.sort sort
makes_sort sort (sym.Fun fun) = false

-- the constructors of a sort among these symbols, the first of which has this number, in order of number
abbrev pub constructors_from : ℕ → List Sym → SortId → List SymId
constructors_from number [] sort = []
constructors_from number (symbol ∷ symbols) sort =
    if makes_sort sort symbol
    then record { 0 = number } ∷ constructors_from (number + 1) symbols sort
    else constructors_from (number + 1) symbols sort

-- the constructors of a sort, in order of number
abbrev pub constructors : SigParts → SortId → List SymId
constructors parts sort = constructors_from 0 parts.symbols sort

-- a sort's number of variables, and of values in a pool; a symbol's weight
abbrev pub vars_at : SigParts → SortId → ℕ
vars_at parts sort = slice_index_or parts.settings.vars sort.0 0

abbrev pub width_at : SigParts → SortId → ℕ
width_at parts sort = slice_index_or parts.settings.width sort.0 1

abbrev pub weight_at : SigParts → SymId → ℕ
weight_at parts f = slice_index_or parts.settings.weights f.0 1

-- whether there is a sort, and it is the one that is wanted
abbrev pub has_sort : Option SortId → SortId → Bool
has_sort None wanted = false
has_sort (Some sort) wanted = same_sort sort wanted

-- whether the arguments have exactly the sorts that are wanted
abbrev pub same_sorts : List (Option SortId) → List SortId → Bool
same_sorts [] [] = true
same_sorts [] (w ∷ ws) = false
same_sorts (s ∷ ss) [] = false
same_sorts (s ∷ ss) (w ∷ ws) = has_sort s w && same_sorts ss ws

-- the sort of a symbol over arguments of these sorts
abbrev pub sort_over : Option Sym → List (Option SortId) → Option SortId
sort_over None sorts = None
sort_over (Some symbol) sorts = if same_sorts sorts (args_of symbol) then Some (result_of symbol) else None

-- the sort of a term, and none where it isn't well-sorted
abbrev pub sort_step : SigParts → Tree-F (Option SortId) → Option SortId
sort_step parts (o.Var sort index) = if is_declared_sort parts sort then Some sort else None
sort_step parts (o.App head sorts) = sort_over (symbol_at parts head) sorts

abbrev pub sort_of : SigParts → Tree → Option SortId
sort_of parts = fold-Tree (Option SortId) (sort_step parts)
