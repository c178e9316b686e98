-- Which symbols are explored, and the universe's sort of a term.
use Rattle.std.specs.Prelude.{◌≡◌, List, Bool, false, Option, Some, None, slice_index_or}
use Rattle.std.specs.List.{list_any}
use Rattle.law_sig.specs.Trees.{same_symbol}
use Rattle.law_sig.specs.Tests.{InU}
use Rattle.law_sig.specs.declared.tree.SortId.{SortId}
use Rattle.law_sig.specs.declared.tree.SymId.{SymId}
use Rattle.law_sig.specs.declared.tree.Tree.{Tree}
use Rattle.law_sig.specs.declared.parts.SigParts.{SigParts}

-- the mark at a symbol's number says whether it is one of these
abbrev pub AreMarksOf : List SymId → List Bool → Type 0
AreMarksOf symbols marks = (f : SymId) → slice_index_or marks f.0 false ≡ list_any (same_symbol f) symbols

-- whether it is explored
abbrev pub AreMarks : SigParts → List Bool → Type 0
AreMarks parts marks = AreMarksOf parts.settings.explored marks

-- the sort at which a term is in the universe, and none where it isn't in it
abbrev pub IsUniverseSort : SigParts → Tree → Option SortId → Type 0
IsUniverseSort parts t None = (sort : SortId) → InU parts sort t → ⊥
IsUniverseSort parts t (Some sort) = InU parts sort t
