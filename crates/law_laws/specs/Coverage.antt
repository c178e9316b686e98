-- Least terms exist, and the law list covers.
use Rattle.law_sig.specs.Tests.{InU, Pools, IsDefined, IsInBudget}
use Rattle.law_sig.specs.WellFormed.{IsWellFormed}
use Rattle.law_sig.specs.Laws.{IsLeast, IsLawList, IsCovered}
use Rattle.std.specs.Prelude.{List}
use Rattle.law_sig.specs.declared.tree.SortId.{SortId}
use Rattle.law_sig.specs.declared.tree.Tree.{Tree}
use Rattle.law_sig.specs.declared.parts.Equation.{Equation}
use Rattle.law_sig.specs.declared.parts.SigParts.{SigParts}

-- where every term of the universe has a value at every test, and a least term that agrees with it, the law list covers
abbrev pub ListCovers : Type 0
ListCovers = (parts : SigParts) (pools : Pools) (laws : List Equation)
    → IsLawList parts pools laws
    → ((sort : SortId) (t : Tree) → InU parts sort t → IsDefined parts pools t)
    → ((sort : SortId) (t : Tree) → InU parts sort t → (u : Tree) × IsLeast parts pools sort t u)
    → IsCovered parts pools laws

-- in a well-formed signature every term of the universe has a least, whatever is over budget
abbrev pub LeastExists : Type 0
LeastExists = (parts : SigParts) (pools : Pools) → IsWellFormed parts
    → (sort : SortId) (t : Tree) → InU parts sort t → (u : Tree) × IsLeast parts pools sort t u

-- so where nothing is over budget the law list covers
abbrev pub ListInBudgetCovers : Type 0
ListInBudgetCovers = (parts : SigParts) (pools : Pools) (laws : List Equation) → IsWellFormed parts → IsInBudget parts pools
    → IsLawList parts pools laws → IsCovered parts pools laws
