-- How pools are kept.
use Rattle.std.specs.Prelude.{◌≡◌, ℕ, ◌<◌, ◌≤◌, ◌^◌, List, length, map, take, Some, slice_get, slice_index_or}
use Rattle.law_sig.specs.Lists.{Each, total, product}
use Rattle.law_ids.specs.Table.{Ids, PoolTable, HasShape, radices_by}
use Rattle.law_pool.specs.declared.pools.SortPlaces.{SortPlaces}

abbrev pub vars_kept : List SortPlaces → List ℕ
vars_kept places = map (λ (p : SortPlaces). p.vars) places

abbrev pub widths_kept : List SortPlaces → List ℕ
widths_kept places = map (λ (p : SortPlaces). p.width) places

abbrev pub table_kept : List SortPlaces → Ids → PoolTable
table_kept places ids = record { vars = vars_kept places; width = widths_kept places; ids = ids }

-- in how many ways the variables of the sorts before this one can be given places
abbrev pub ways_before : List ℕ → List ℕ → ℕ → ℕ
ways_before vars width sort = product (take (total (take sort vars)) (radices_by vars width))

-- what is kept is right
pub record AreKept (places : List SortPlaces) (assignments : ℕ) (ids : Ids) : Type 0 where
  pub few_sorts : length places ≤ 64
  pub wide : Each (λ w. 1 ≤ w) (widths_kept places)
  pub steps : (sort : ℕ) (p : SortPlaces) → slice_get places sort ≡ Some p → p.step ≡ ways_before (vars_kept places) (widths_kept places) sort
  pub count : assignments ≡ product (radices_by (vars_kept places) (widths_kept places))
  pub few : assignments ≤ 4096
  pub shape : HasShape (widths_kept places) ids
  pub few_pools : length ids < 2 ^ 32

-- the numbers of a sort, in a table whose widths are not 0 and whose tests are few
pub record IsPlaces (table : PoolTable) (sort : ℕ) (p : SortPlaces) : Type 0 where
  pub all_wide : Each (λ w. 1 ≤ w) table.width
  pub few : product (radices_by table.vars table.width) ≤ 4096
  pub declared : sort < length table.width
  pub vars : p.vars ≡ slice_index_or table.vars sort 0
  pub width : p.width ≡ slice_index_or table.width sort 1
  pub wide : 1 ≤ p.width
  pub step : p.step ≡ ways_before table.vars table.width sort
