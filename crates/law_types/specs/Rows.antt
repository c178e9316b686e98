-- A table of the constructors of the first sorts.
use Rattle.std.specs.Prelude.{◌≡◌, ◌<◌, ℕ, List, length, Some, slice_get}
use Rattle.law_sig.specs.Signature.{constructors_from}
use Rattle.law_sig.specs.declared.tree.SortId.{SortId}
use Rattle.law_sig.specs.declared.tree.SymId.{SymId}
use Rattle.law_typing.specs.declared.whole.Whole.{Whole}

-- a row that there is has the constructors of its sort
abbrev pub AreRows : Whole → List (List SymId) → Type 0
AreRows text rows = (sort : ℕ) (row : List SymId) → slice_get rows sort ≡ Some row → row ≡ constructors_from 0 text.symbols (record { 0 = sort })

-- the rows of so many sorts, in order
pub record HasRows (text : Whole) (count : ℕ) (rows : List (List SymId)) : Type 0 where
  pub one_each : length rows ≡ count
  pub row : (sort : SortId) → sort.0 < count → slice_get rows sort.0 ≡ Some (constructors_from 0 text.symbols sort)
