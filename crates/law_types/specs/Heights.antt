-- A table of the sorts that have a value of at most some height.
use Rattle.std.specs.Prelude.{◌≡◌, ℕ, ◌<◌, List, length, Bool, true, false, if◌then◌else◌, slice_set, slice_index_or}
use Rattle.std.specs.List.{list_any}
use Rattle.law_sig.specs.WellFormed.{makes_from}
use Rattle.law_sig.specs.declared.tree.SortId.{SortId}
use Rattle.law_sig.specs.declared.parts.Sym.{Sym}
use Rattle.law_typing.specs.Declarations.{is_low}
use Rattle.law_typing.specs.declared.whole.Whole.{Whole}

-- for each sort whether it has a value of at most this height
pub record AreLow (text : Whole) (height : ℕ) (lows : List Bool) : Type 0 where
  pub one_each : length lows ≡ length text.sorts
  pub each : (sort : SortId) → sort.0 < length text.sorts → slice_index_or lows sort.0 false ≡ is_low text height sort

-- the table with a mark at a place, where there is something to mark
abbrev pub marked : Bool → ℕ → List Bool → List Bool
marked low place lows = if low then slice_set lows place true else lows

-- for each sort whether one of these symbols makes a value of it from values of at most this height
pub record AreMarked (text : Whole) (height : ℕ) (symbols : List Sym) (lows : List Bool) : Type 0 where
  pub one_each : length lows ≡ length text.sorts
  pub each : (sort : SortId) → sort.0 < length text.sorts → slice_index_or lows sort.0 false ≡ list_any (makes_from (is_low text height) sort) symbols
