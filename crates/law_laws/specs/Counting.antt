-- The number of terms of the universe.
use Rattle.std.specs.Prelude.{◌≡◌, List, length}
use Rattle.law_sig.specs.Lists.{In, Each, AreDistinct}
use Rattle.law_sig.specs.Tests.{InU}
use Rattle.law_sig.specs.Counts.{term_count}
use Rattle.law_sig.specs.WellFormed.{IsWellFormed}
use Rattle.law_sig.specs.declared.tree.SortId.{SortId}
use Rattle.law_sig.specs.declared.tree.Tree.{Tree}
use Rattle.law_sig.specs.declared.parts.SigParts.{SigParts}

-- a term of the universe, at some sort
abbrev pub IsInUniverse : SigParts → Tree → Type 0
IsInUniverse parts t = (sort : SortId) × InU parts sort t

-- each term of the universe stands in the list once, and nothing else does
pub record IsListing (parts : SigParts) (terms : List Tree) : Type 0 where
  pub distinct : AreDistinct terms
  pub only : Each (IsInUniverse parts) terms
  pub all : (t : Tree) → IsInUniverse parts t → In t terms

-- there is such a list, and it is as long as the count says
abbrev pub CountIsOfTerms : Type 0
CountIsOfTerms = (parts : SigParts) → IsWellFormed parts → (terms : List Tree) × IsListing parts terms × (length terms ≡ term_count parts)

-- every such list has that length
abbrev pub ListingsAreCounted : Type 0
ListingsAreCounted = (parts : SigParts) → IsWellFormed parts → (terms : List Tree) → IsListing parts terms → length terms ≡ term_count parts
