-- When a signature is well-formed.
use Rattle.std.specs.Prelude.{◌≡◌, ℕ, zero, suc, ◌^◌, ◌<◌, ◌≤◌, List, [], ◌∷◌, length, map, Bool, true, false, ◌&&◌, ◌||◌, nat_lt, Option, Some, None, slice_get, IsTrue}
use Rattle.std.specs.List.{list_all, list_any}
use Rattle.law_sig.specs.Lists.{Each, AreDistinct}
use Rattle.law_sig.specs.Names.{is_name}
use Rattle.law_sig.specs.Trees.{same_sort, same_symbol, node_count, depth}
use Rattle.law_sig.specs.Bodies.{body_nodes, body_depth}
use Rattle.law_sig.specs.Signature.{is_declared_sort, symbol_at, args_of, result_of, constructors, vars_at, width_at, sort_of, sort_over}
use Rattle.law_sig.specs.declared.tree.SortId.{SortId}
use Rattle.law_sig.specs.declared.tree.SymId.{SymId}
use Rattle.law_sig.specs.declared.tree.Tree.{Tree}
use Rattle.law_sig.specs.declared.tree.Tree.TheOpen.{Tree-F}
use Rattle.law_sig.specs.declared.tree.Tree.TheOpen as o
use Rattle.law_sig.specs.declared.tree.Tree.TheFolds.{fold-Tree}
use Rattle.law_sig.specs.declared.tree.Body.{Body}
use Rattle.law_sig.specs.declared.tree.Body.TheOpen.{Body-F}
use Rattle.law_sig.specs.declared.tree.Body.TheOpen as b
use Rattle.law_sig.specs.declared.tree.Body.TheFolds.{fold-Body}
use Rattle.law_sig.specs.declared.parts.Fun.{Fun}
use Rattle.law_sig.specs.declared.parts.Sym.{Sym}
use Rattle.law_sig.specs.declared.parts.Sym.TheVariants as sym
use Rattle.law_sig.specs.declared.parts.Equation.{Equation}
use Rattle.law_sig.specs.declared.parts.PoolRule.{PoolRule}
use Rattle.law_sig.specs.declared.parts.PoolRule.TheVariants as rule
use Rattle.law_sig.specs.declared.parts.SigParts.{SigParts}

-- Ranges

-- from low to high, both included
abbrev pub IsBetween : ℕ → ℕ → ℕ → Type 0
IsBetween low high n = (low ≤ n) × (n ≤ high)

-- Values

-- whether a symbol is a constructor
abbrev pub is_constructor : Option Sym → Bool
is_constructor None = false
is_constructor (Some (sym.Con con)) = true
is_constructor (Some (sym.Fun fun)) = false

abbrev pub value_step : SigParts → Tree-F Bool → Bool
value_step parts (o.Var sort index) = false
value_step parts (o.App head made) = is_constructor (symbol_at parts head) && list_all (λ m. m) made

-- a value of a sort: a well-sorted tree of constructors
pub record IsValueOf (parts : SigParts) (sort : SortId) (v : Tree) : Type 0 where
  pub made : IsTrue (fold-Tree Bool (value_step parts) v)
  pub sorted : sort_of parts v ≡ Some sort

-- Bounds of what is written down: at most 4,096 nodes, and a depth of at most 256

pub record IsWritable (nodes levels : ℕ) : Type 0 where
  pub nodes_bound : nodes ≤ 4096
  pub depth_bound : levels ≤ 256

-- Bodies

-- what a body may name: the function's own number and its match place, the sorts of the matched constructor's fields
-- and those of the parameters
pub record Scope : Type 0 where
  pub owner : SymId
  pub place : Option ℕ
  pub fields : List SortId
  pub params : List SortId

-- a part of a body: its sort, none where it isn't well-formed, and whether it is directly a field
pub record Part : Type 0 where
  pub sort : Option SortId
  pub is_field : Bool

abbrev pub part_is_field : Option Part → Bool
part_is_field None = false
part_is_field (Some part) = part.is_field

-- whether these arguments have directly a field at the match place
abbrev pub falls : Option ℕ → List Part → Bool
falls None args = false
falls (Some place) args = part_is_field (slice_get args place)

-- a function may be called where it is declared earlier, or is the function itself and the call falls
abbrev pub may_call : Scope → SymId → List Part → Bool
may_call scope f args = nat_lt f.0 scope.owner.0 || (same_symbol f scope.owner && falls scope.place args)

abbrev pub is_function : Option Sym → Bool
is_function None = false
is_function (Some (sym.Con con)) = false
is_function (Some (sym.Fun fun)) = true

-- the sort where the test holds
abbrev pub where_true : Bool → Option SortId → Option SortId
where_true true sort = sort
where_true false sort = None

abbrev pub part_step : SigParts → Scope → Body-F Part → Part
part_step parts scope (b.Field number) = record { sort = slice_get scope.fields number; is_field = true }
part_step parts scope (b.Param number) = record { sort = slice_get scope.params number; is_field = false }
part_step parts scope (b.Make head args) = record {
  sort = where_true (is_constructor (symbol_at parts head)) (sort_over (symbol_at parts head) (map (λ (p : Part). p.sort) args));
  is_field = false;
}
part_step parts scope (b.Call head args) = record {
  sort = where_true (is_function (symbol_at parts head) && may_call scope head args) (sort_over (symbol_at parts head) (map (λ (p : Part). p.sort) args));
  is_field = false;
}

-- the sort of a body, and none where it isn't well-formed
abbrev pub sort_of_body : SigParts → Scope → Body → Option SortId
sort_of_body parts scope body = (fold-Body Part (part_step parts scope) body).sort

-- a body of a function: well-formed, of the function's result sort, and within the bounds of what is written
pub record IsBody (parts : SigParts) (scope : Scope) (result : SortId) (body : Body) : Type 0 where
  pub sorted : sort_of_body parts scope body ≡ Some result
  pub written : IsWritable (body_nodes body) (body_depth body)

-- a case for this constructor
abbrev pub IsCase : (List SortId → Body → Type 0) → Option Sym → Body → Type 0
IsCase P None body = ⊥
IsCase P (Some symbol) body = P (args_of symbol) body

-- exactly one body for each of these constructors, in order
abbrev pub AreCases : SigParts → (List SortId → Body → Type 0) → List SymId → List Body → Type 0
AreCases parts P [] [] = Unit {0}
AreCases parts P [] (body ∷ bodies) = ⊥
AreCases parts P (c ∷ cs) [] = ⊥
AreCases parts P (c ∷ cs) (body ∷ bodies) = IsCase P (symbol_at parts c) body × AreCases parts P cs bodies

-- Symbols

abbrev pub IsDeclared : SigParts → SortId → Type 0
IsDeclared parts sort = IsTrue (is_declared_sort parts sort)

-- either one body, or one for each constructor of the sort at the match place
abbrev pub FitsPlace : SigParts → SymId → Fun → Option ℕ → Type 0
FitsPlace parts f fun None = (body : Body) × (fun.cases ≡ body ∷ []) × IsBody parts (record { owner = f; place = None; fields = []; params = fun.args }) fun.result body
FitsPlace parts f fun (Some place) = (sort : SortId) × (slice_get fun.args place ≡ Some sort)
    × AreCases parts (λ fields body. IsBody parts (record { owner = f; place = Some place; fields = fields; params = fun.args }) fun.result body)
    (constructors parts sort) fun.cases

-- a function has its bodies
abbrev pub HasBodies : SigParts → SymId → Sym → Type 0
HasBodies parts f (sym.Con con) = Unit {0}
HasBodies parts f (sym.Fun fun) = FitsPlace parts f fun fun.place

-- a symbol speaks of declared sorts and has at most 8 arguments
pub record IsSymbol (parts : SigParts) (f : SymId) (symbol : Sym) : Type 0 where
  pub args_declared : Each (IsDeclared parts) (args_of symbol)
  pub args_bound : length (args_of symbol) ≤ 8
  pub result_declared : IsDeclared parts (result_of symbol)
  pub bodies : HasBodies parts f symbol

-- Background equations

abbrev pub vars_step : SigParts → Tree-F Bool → Bool
vars_step parts (o.Var sort index) = nat_lt index (vars_at parts sort)
vars_step parts (o.App head below) = list_all (λ v. v) below

-- a side: well-sorted, its variables below their sort's number, within the bounds of what is written
pub record IsSide (parts : SigParts) (sort : SortId) (side : Tree) : Type 0 where
  pub sorted : sort_of parts side ≡ Some sort
  pub variables : IsTrue (fold-Tree Bool (vars_step parts) side)
  pub written : IsWritable (node_count side) (depth side)

pub record IsBackground (parts : SigParts) (e : Equation) : Type 0 where
  pub sort : SortId
  pub left_side : IsSide parts sort e.left
  pub right_side : IsSide parts sort e.right

-- Pools

-- as many values of a sort as its width
pub record AreValues (parts : SigParts) (sort : SortId) (values : List Tree) : Type 0 where
  pub count : length values ≡ width_at parts sort
  pub each : Each (λ v. IsValueOf parts sort v × IsWritable (node_count v) (depth v)) values

-- for each sort from this number on, in order, its values
abbrev pub IsPoolFrom : SigParts → ℕ → List (List Tree) → Type 0
IsPoolFrom parts sort [] = Unit {0}
IsPoolFrom parts sort (values ∷ others) = AreValues parts (record { 0 = sort }) values × IsPoolFrom parts (suc sort) others

pub record IsPool (parts : SigParts) (pool : List (List Tree)) : Type 0 where
  pub sorts : length pool ≡ length parts.sort_names
  pub values : IsPoolFrom parts 0 pool

-- whether a symbol makes a value of the sort from fields whose sorts pass the test
abbrev pub makes_from : (SortId → Bool) → SortId → Sym → Bool
makes_from passes sort (sym.Con con) = same_sort con.sort sort && list_all passes con.args
makes_from passes sort (sym.Fun fun) = false

-- whether the least height of a sort is at most this number: some constructor has a least height of at most this
-- number, which is 1 for a nullary one and else 1 more than the greatest least height of its argument sorts
unfoldable pub is_within_height : SigParts → ℕ → SortId → Bool
is_within_height parts zero sort = false
is_within_height parts (suc n) sort = list_any (makes_from (is_within_height parts n) sort) parts.symbols

pub record IsSeeded (parts : SigParts) (seed height count : ℕ) : Type 0 where
  pub seed_range : seed < 2 ^ 63
  pub height_range : IsBetween 1 16 height
  pub count_range : IsBetween 1 16 count
  pub high_enough : (sort : SortId) → IsDeclared parts sort → IsTrue (is_within_height parts height sort)

pub record AreGiven (parts : SigParts) (pools : List (List (List Tree))) : Type 0 where
  pub pools_range : IsBetween 1 16 (length pools)
  pub each_pool : Each (IsPool parts) pools

abbrev pub IsPoolRule : SigParts → PoolRule → Type 0
IsPoolRule parts (rule.Given pools) = AreGiven parts pools
IsPoolRule parts (rule.Seeded seed height count) = IsSeeded parts seed height count

-- The whole signature

-- a list with one number for each sort or symbol, each in the range
pub record AreNumbers (count low high : ℕ) (numbers : List ℕ) : Type 0 where
  pub one_each : length numbers ≡ count
  pub in_range : Each (IsBetween low high) numbers

-- names are spelled as names, and no two are the same
pub record AreNames (names : List (List ℕ)) : Type 0 where
  pub spelled : Each (λ name. IsTrue (is_name name)) names
  pub distinct : AreDistinct names

pub record AreSettings (parts : SigParts) : Type 0 where
  pub vars : AreNumbers (length parts.sort_names) 0 8 parts.settings.vars
  pub size : IsBetween 1 32 parts.settings.size
  pub width : AreNumbers (length parts.sort_names) 1 16 parts.settings.width
  pub budget : IsBetween 1 1000000 parts.settings.budget
  pub pairs : parts.settings.pairs ≤ 4096
  pub weights : AreNumbers (length parts.symbols) 1 4 parts.settings.weights
  pub explored_declared : Each (λ (f : SymId). f.0 < length parts.symbols) parts.settings.explored
  pub explored_distinct : AreDistinct parts.settings.explored
  pub background : Each (IsBackground parts) parts.settings.background
  pub pools : IsPoolRule parts parts.settings.pools

pub record IsWellFormed (parts : SigParts) : Type 0 where
  pub sorts_range : IsBetween 1 64 (length parts.sort_names)
  pub sort_names : AreNames parts.sort_names
  pub every_sort_has_a_value : (sort : SortId) → IsDeclared parts sort → (v : Tree) × IsValueOf parts sort v
  pub symbols_range : length parts.symbols < 2 ^ 32
  pub one_name_each : length parts.symbol_names ≡ length parts.symbols
  pub symbol_names : AreNames parts.symbol_names
  pub symbols : (f : SymId) (symbol : Sym) → symbol_at parts f ≡ Some symbol → IsSymbol parts f symbol
  pub settings : AreSettings parts
