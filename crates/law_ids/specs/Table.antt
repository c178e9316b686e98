-- What contracts see of pools, and what it says of tests.
use Rattle.std.specs.Prelude.{◌≡◌, ℕ, ◌*◌, ◌<◌, List, [], Bool, true, false, length, map, Option, slice_get, slice_index_or, option_and_then}
use Rattle.law_sig.specs.Lists.{Each, product}
use Rattle.law_sig.specs.Signature.{vars_at}
use Rattle.law_sig.specs.Tests.{per_variable, digit, Pools}
use Rattle.law_sig.specs.declared.tree.SortId.{SortId}
use Rattle.law_sig.specs.declared.tree.Tree.{Tree}
use Rattle.law_sig.specs.declared.parts.PoolRule.{PoolRule}
use Rattle.law_sig.specs.declared.parts.PoolRule.TheVariants as rule
use Rattle.law_sig.specs.declared.parts.SigParts.{SigParts}
use Rattle.law_ids.specs.declared.ids.ValueId.{ValueId}
use Rattle.law_ids.specs.Values.{AreOf, trees_of}

-- ids of values by pool, then sort, then place
abbrev pub Ids : Type 0
Ids = List (List (List ValueId))

-- each sort's number of variables and width, and the ids
pub record PoolTable : Type 0 where
  pub vars : List ℕ
  pub width : List ℕ
  pub ids : Ids

-- pools for this signature: its numbers of variables, and its widths
pub record IsFor (parts : SigParts) (table : PoolTable) : Type 0 where
  pub vars : table.vars ≡ parts.settings.vars
  pub width : table.width ≡ parts.settings.width

-- every pool has a list for each width, and each list is so long
abbrev pub HasShape : List ℕ → Ids → Type 0
HasShape width ids = Each (λ pool. map length pool ≡ width) ids

-- all ids are of the bank
abbrev pub AreHeld : List Tree → Ids → Type 0
AreHeld bank ids = Each (Each (AreOf bank)) ids

-- the values that the ids name in a bank
abbrev pub pools_of : List Tree → Ids → Pools
pools_of bank ids = map (map (trees_of bank)) ids

-- the id at a place of a pool
abbrev pub id_at : Ids → ℕ → SortId → ℕ → Option ValueId
id_at ids pool sort place = option_and_then (λ values. slice_get values place) (option_and_then (λ sorts. slice_get sorts sort.0) (slice_get ids pool))

-- all variables of this sort read the same place
abbrev pub ReadsOnePlace : SigParts → ℕ → SortId → Type 0
ReadsOnePlace parts test sort = (i j : ℕ) → i < vars_at parts sort → j < vars_at parts sort → digit parts test sort i ≡ digit parts test sort j

-- what a signature's numbers of variables and widths say

abbrev pub vars_of : PoolTable → SortId → ℕ
vars_of table sort = slice_index_or table.vars sort.0 0

abbrev pub width_of : PoolTable → SortId → ℕ
width_of table sort = slice_index_or table.width sort.0 1

-- the width that each variable's place stays below, in the order of the variables
abbrev pub radices_by : List ℕ → List ℕ → List ℕ
radices_by vars width = per_variable 0 vars (λ sort index. slice_index_or width sort 1)

-- how many tests there are
abbrev pub tests_of : PoolTable → ℕ
tests_of table = length table.ids * product (radices_by table.vars table.width)

-- the values that a signature gives, and whether it gives them
abbrev pub is_given : PoolRule → Bool
is_given (rule.Given values) = true
is_given (rule.Seeded seed height count) = false

abbrev pub given_in : PoolRule → Pools
given_in (rule.Given values) = values
given_in (rule.Seeded seed height count) = []
