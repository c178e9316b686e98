-- The universe of terms, the pools, the tests, and when two terms agree.
use Rattle.std.specs.Prelude.{◌≡◌, ℕ, zero, suc, ◌+◌, ◌*◌, ◌/◌, ◌%◌, ◌<◌, ◌≤◌, List, [], ◌∷◌, ◌++◌, length, take, Bool, ◌&&◌, nat_lt, Option, Some, None, IsSome, IsTrue, slice_get, slice_index_or, option_map, option_and_then}
use Rattle.std.specs.List.{list_all, list_any}
use Rattle.law_sig.specs.Lists.{Each, total, product}
use Rattle.law_sig.specs.Trees.{same_symbol}
use Rattle.law_sig.specs.Signature.{vars_at, width_at, weight_at, sort_of}
use Rattle.law_sig.specs.Evaluate.{Made, ap}
use Rattle.law_sig.specs.declared.tree.SortId.{SortId}
use Rattle.law_sig.specs.declared.tree.SymId.{SymId}
use Rattle.law_sig.specs.declared.tree.Tree.{Tree}
use Rattle.law_sig.specs.declared.tree.Tree.TheOpen.{Tree-F}
use Rattle.law_sig.specs.declared.tree.Tree.TheOpen as o
use Rattle.law_sig.specs.declared.tree.Tree.TheFolds.{fold-Tree}
use Rattle.law_sig.specs.declared.parts.Equation.{Equation}
use Rattle.law_sig.specs.declared.parts.SigParts.{SigParts}

-- The universe

-- a variable weighs 1, a symbol its stated weight, a term the sum over its nodes
abbrev pub weight_step : SigParts → Tree-F ℕ → ℕ
weight_step parts (o.Var sort index) = 1
weight_step parts (o.App head weights) = weight_at parts head + total weights

abbrev pub weight : SigParts → Tree → ℕ
weight parts = fold-Tree ℕ (weight_step parts)

abbrev pub is_explored : SigParts → SymId → Bool
is_explored parts f = list_any (same_symbol f) parts.settings.explored

-- whether a term has explored symbols alone, and variables below their sort's number
abbrev pub bounded_step : SigParts → Tree-F Bool → Bool
bounded_step parts (o.Var sort index) = nat_lt index (vars_at parts sort)
bounded_step parts (o.App head below) = is_explored parts head && list_all (λ inside. inside) below

abbrev pub is_bounded : SigParts → Tree → Bool
is_bounded parts = fold-Tree Bool (bounded_step parts)

-- the universe at a sort: well-sorted terms over explored symbols and variables below their sort's number, of weight at
-- most the setting `size`
pub record InU (parts : SigParts) (sort : SortId) (t : Tree) : Type 0 where
  pub sorted : sort_of parts t ≡ Some sort
  pub bounded : IsTrue (is_bounded parts t)
  pub small : weight parts t ≤ parts.settings.size

-- Pools and tests

-- values by pool, then sort, then place
abbrev pub Pools : Type 0
Pools = List (List (List Tree))

-- f at 0, 1, 2 and so on, so many
abbrev pub first_of : {A : Type 0} → ℕ → (ℕ → A) → List A
first_of zero f = []
first_of (suc n) f = f 0 ∷ first_of n (λ i. f (suc i))

-- something for each variable, by sort from this one on and then by index, where each sort has so many variables
abbrev pub per_variable : {A : Type 0} → ℕ → List ℕ → (ℕ → ℕ → A) → List A
per_variable sort [] f = []
per_variable sort (n ∷ vars) f = first_of n (f sort) ++ per_variable (suc sort) vars f

-- the width that each variable's place stays below, in the order of the variables
abbrev pub radices : SigParts → List ℕ
radices parts = per_variable 0 parts.settings.vars (λ sort index. width_at parts (record { 0 = sort }))

-- the variables of all sorts are numbered from 0, by sort and then by index
abbrev pub variable_number : SigParts → SortId → ℕ → ℕ
variable_number parts sort index = total (take sort.0 parts.settings.vars) + index

-- how many ways there are to give each variable a place
abbrev pub assignments : SigParts → ℕ
assignments parts = product (radices parts)

-- the digit at a place of a number whose digits stay below these radices, the first digit being the least
abbrev pub digit_in : List ℕ → ℕ → ℕ → ℕ
digit_in bases k n = (n / product (take k bases)) % slice_index_or bases k 1

-- the place in the pool that a variable reads at a test; only variables below their sort's number are ever asked
abbrev pub digit : SigParts → ℕ → SortId → ℕ → ℕ
digit parts test sort index = digit_in (radices parts) (variable_number parts sort index) (test % assignments parts)

-- tests are numbered from 0, pool by pool
abbrev pub test_count : SigParts → Pools → ℕ
test_count parts pools = length pools * assignments parts

-- all variables of one sort read the same place
abbrev pub IsFlat : SigParts → ℕ → Type 0
IsFlat parts test = (sort : SortId) (i j : ℕ) → i < vars_at parts sort → j < vars_at parts sort → digit parts test sort i ≡ digit parts test sort j

-- the value at a place of a pool
abbrev pub pool_value : Pools → ℕ → SortId → ℕ → Option Tree
pool_value pools pool sort place = option_and_then (λ values. slice_get values place) (option_and_then (λ sorts. slice_get sorts sort.0) (slice_get pools pool))

-- the value of a variable at a test
abbrev pub value_at : SigParts → Pools → ℕ → SortId → ℕ → Option Tree
value_at parts pools test sort index = pool_value pools (test / assignments parts) sort (digit parts test sort index)

-- all of them, and none where one is missing
abbrev pub all_present : {A : Type 0} → List (Option A) → Option (List A)
all_present [] = Some []
all_present (None ∷ others) = None
all_present (Some x ∷ others) = option_map (λ xs. x ∷ xs) (all_present others)

-- the value of a term at a test, node by node, each application with the full budget; none where one of them is over
abbrev pub val_step : SigParts → Pools → ℕ → Tree-F (Option Tree) → Option Tree
val_step parts pools test (o.Var sort index) = value_at parts pools test sort index
val_step parts pools test (o.App head args) =
    option_and_then (λ values. option_map (λ (m : Made). m.value) (ap parts head values parts.settings.budget)) (all_present args)

abbrev pub val : SigParts → Pools → ℕ → Tree → Option Tree
val parts pools test = fold-Tree (Option Tree) (val_step parts pools test)

-- Agreement, of terms of one sort

-- the weaker one: at every test both terms have the same value, or neither has one
abbrev pub Same : SigParts → Pools → Tree → Tree → Type 0
Same parts pools s t = (test : ℕ) → test < test_count parts pools → val parts pools test s ≡ val parts pools test t

-- the term has a value at every test
abbrev pub IsDefined : SigParts → Pools → Tree → Type 0
IsDefined parts pools t = (test : ℕ) → test < test_count parts pools → IsSome (val parts pools test t)

-- the stronger one: both terms have a value at every test, and the same one
pub record Agrees (parts : SigParts) (pools : Pools) (s t : Tree) : Type 0 where
  pub same : Same parts pools s t
  pub defined : IsDefined parts pools s

-- every term of the universe and every background side has a value at every test
pub record IsInBudget (parts : SigParts) (pools : Pools) : Type 0 where
  pub terms : (sort : SortId) (t : Tree) → InU parts sort t → IsDefined parts pools t
  pub sides : Each (λ (e : Equation). IsDefined parts pools e.left × IsDefined parts pools e.right) parts.settings.background
