-- Generated values of more than 4,096 nodes.
use Rattle.std.specs.Prelude.{◌≡◌, ℕ, ◌<◌, ◌≤◌, List, take, Some, slice_get}
use Rattle.law_sig.specs.Lists.{In, Each}
use Rattle.law_sig.specs.Trees.{node_count}
use Rattle.law_sig.specs.Tests.{Pools}
use Rattle.law_sig.specs.declared.tree.SortId.{SortId}
use Rattle.law_sig.specs.declared.tree.Tree.{Tree}

-- no value is too large
abbrev pub AreSmall : List Tree → Type 0
AreSmall values = Each (λ v. node_count v ≤ 4096) values

-- one of them is
abbrev pub HasLarge : List Tree → Type 0
HasLarge values = (v : Tree) × In v values × (4096 < node_count v)

-- the first sort of a pool with such a value
pub record IsFirstIn (sorts : List (List Tree)) (sort : SortId) : Type 0 where
  pub values : List Tree
  pub there : slice_get sorts sort.0 ≡ Some values
  pub large : HasLarge values
  pub before : Each AreSmall (take sort.0 sorts)

-- the first pool and its first sort with such a value
pub record IsFirst (pools : Pools) (pool : ℕ) (sort : SortId) : Type 0 where
  pub sorts : List (List Tree)
  pub there : slice_get pools pool ≡ Some sorts
  pub first : IsFirstIn sorts sort
  pub before : Each (Each AreSmall) (take pool pools)
