-- Considered schemas as a list, weight by weight; and the universe, where all schemas are spread and all terms are live.
use Rattle.std.specs.Prelude.{ℕ, zero, suc, ◌-◌, ◌==◌, List, [], ◌∷◌, ◌++◌, length, map, Bool, false, ◌&&◌, if◌then◌else◌, nat_lt, nat_le, Option, Some, None, slice_index_or}
use Rattle.std.specs.List.{flat_map}
use Rattle.law_sig.specs.Trees.{same_sort}
use Rattle.law_sig.specs.Signature.{symbol_at, args_of, result_of, vars_at, weight_at}
use Rattle.law_sig.specs.Tests.{is_explored}
use Rattle.law_sig.specs.declared.tree.SortId.{SortId}
use Rattle.law_sig.specs.declared.tree.SymId.{SymId}
use Rattle.law_sig.specs.declared.tree.Tree.{Tree}
use Rattle.law_sig.specs.declared.tree.Tree.TheOpen.{Tree-F}
use Rattle.law_sig.specs.declared.tree.Tree.TheOpen as o
use Rattle.law_sig.specs.declared.tree.Tree.TheVariants.{Var, App}
use Rattle.law_sig.specs.declared.tree.Tree.TheFolds.{fold-Tree}
use Rattle.law_sig.specs.declared.tree.Tree.TheViews.{out-Tree}
use Rattle.law_sig.specs.declared.parts.Sym.{Sym}
use Rattle.law_sig.specs.declared.parts.SigParts.{SigParts}
use Rattle.law_listing.specs.Rows.{each_below, choices, rows_of}

-- Sorts, by the head alone

-- whether a symbol's results have this sort
abbrev pub gives_sort : SortId → Option Sym → Bool
gives_sort sort None = false
gives_sort sort (Some symbol) = same_sort (result_of symbol) sort

-- whether a term's head has this sort
abbrev pub heads_sort : SigParts → SortId → Tree-F Tree → Bool
heads_sort parts sort (o.Var s index) = same_sort s sort
heads_sort parts sort (o.App head args) = gives_sort sort (symbol_at parts head)

-- the terms whose heads have this sort
abbrev pub of_sort : SigParts → SortId → List Tree → List Tree
of_sort parts sort [] = []
of_sort parts sort (t ∷ ts) = if heads_sort parts sort (out-Tree t) then t ∷ of_sort parts sort ts else of_sort parts sort ts

-- Schemas

-- the schemas of a weight and a sort, where schemas are listed by weight
abbrev pub of_weight : SigParts → List (List Tree) → ℕ → SortId → List Tree
of_weight parts levels k sort = of_sort parts sort (slice_index_or levels k [])

-- the first variable of a sort, if it has any
abbrev pub first_variable : SigParts → SortId → List Tree
first_variable parts sort = if nat_lt 0 (vars_at parts sort) then Var sort 0 ∷ [] else []

-- the first variable of each sort that has any
abbrev pub first_variables : SigParts → List Tree
first_variables parts = each_below (length parts.sort_names) (λ i. first_variable parts (record { 0 = i }))

-- a symbol over these lists of arguments
abbrev pub over_each : SymId → List (List Tree) → List Tree
over_each f lists = map (λ args. App f args) lists

-- the considered schemas of this weight with this symbol on top, where the spread schemas of each weight and sort are listed
abbrev pub applications_of : SigParts → (ℕ → SortId → List Tree) → ℕ → SymId → Option Sym → List Tree
applications_of parts items weight f None = []
applications_of parts items weight f (Some symbol) =
    if is_explored parts f && nat_le (weight_at parts f) weight
    then over_each f (rows_of items (args_of symbol) (weight - weight_at parts f))
    else []

-- the same for a symbol by its number
abbrev pub applications : SigParts → (ℕ → SortId → List Tree) → ℕ → SymId → List Tree
applications parts items weight f = applications_of parts items weight f (symbol_at parts f)

-- the considered schemas of this weight
abbrev pub considered : SigParts → (ℕ → SortId → List Tree) → ℕ → List Tree
considered parts items weight =
    (if weight == 1 then first_variables parts else [])
    ++ each_below (length parts.symbols) (λ i. applications parts items weight (record { 0 = i }))

-- the same where the spread schemas are listed by weight alone
abbrev pub level : SigParts → List (List Tree) → ℕ → List Tree
level parts levels weight = considered parts (of_weight parts levels) weight

-- the schemas of each weight from 0 to this one, where all of them are spread
unfoldable pub levels_to : SigParts → ℕ → List (List Tree)
levels_to parts zero = [] ∷ []
levels_to parts (suc n) = levels_to parts n ++ level parts (levels_to parts n) (suc n) ∷ []

-- Instances

-- the variables of a sort
abbrev pub variables_of : SigParts → SortId → List Tree
variables_of parts sort = each_below (vars_at parts sort) (λ i. Var sort i ∷ [])

-- each hole filled with each variable of its sort
abbrev pub instances_step : SigParts → Tree-F (List Tree) → List Tree
instances_step parts (o.Var sort index) = variables_of parts sort
instances_step parts (o.App head lists) = over_each head (choices lists)

-- the instances of a schema: each of its holes filled with each variable of its sort, the first hole counting most
abbrev pub instances : SigParts → Tree → List Tree
instances parts = fold-Tree (List Tree) (instances_step parts)

-- the instances of the schemas of each weight up to this one, in the order of the schemas
abbrev pub listing : SigParts → ℕ → List Tree
listing parts size = flat_map (λ schemas. flat_map (instances parts) schemas) (levels_to parts size)
