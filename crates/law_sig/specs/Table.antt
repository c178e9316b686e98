-- The table that a signature keeps beside its parts.
use Rattle.std.specs.Prelude.{◌≡◌, ℕ, List, length, Some, slice_get, ◌<◌}
use Rattle.law_sig.specs.Signature.{constructors}
use Rattle.law_sig.specs.WellFormed.{IsWellFormed}
use Rattle.law_sig.specs.declared.tree.SortId.{SortId}
use Rattle.law_sig.specs.declared.tree.SymId.{SymId}
use Rattle.law_sig.specs.declared.parts.SigParts.{SigParts}

-- for each sort below a number, the constructors of that sort
pub record HasRows (parts : SigParts) (count : ℕ) (table : List (List SymId)) : Type 0 where
  pub one_each : length table ≡ count
  pub row : (sort : SortId) → sort.0 < count → slice_get table sort.0 ≡ Some (constructors parts sort)

-- the parts are well-formed, and the table has the constructors of every sort
pub record IsIndexed (parts : SigParts) (table : List (List SymId)) : Type 0 where
  pub well_formed : IsWellFormed parts
  pub rows : HasRows parts (length parts.sort_names) table
