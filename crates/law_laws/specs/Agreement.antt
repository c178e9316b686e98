-- Laws of agreement, least terms and the law list.
use Rattle.std.specs.Prelude.{◌≡◌, ◌↔◌, List}
use Rattle.law_sig.specs.Tests.{Pools, Same, Agrees}
use Rattle.law_sig.specs.Laws.{IsLeast, IsLawList}
use Rattle.law_sig.specs.declared.tree.SortId.{SortId}
use Rattle.law_sig.specs.declared.tree.Tree.{Tree}
use Rattle.law_sig.specs.declared.parts.Equation.{Equation}
use Rattle.law_sig.specs.declared.parts.SigParts.{SigParts}

-- agreement is symmetric and transitive
pub record IsPartialEquivalence (parts : SigParts) (pools : Pools) : Type 0 where
  pub back : (s t : Tree) → Agrees parts pools s t → Agrees parts pools t s
  pub chain : (s t u : Tree) → Agrees parts pools s t → Agrees parts pools t u → Agrees parts pools s u

abbrev pub AgreementIsPartialEquivalence : Type 0
AgreementIsPartialEquivalence = (parts : SigParts) (pools : Pools) → IsPartialEquivalence parts pools

-- terms of one sort that have a least have the same one exactly where they have the same values; so each has one least
abbrev pub LeastTellsValues : Type 0
LeastTellsValues = (parts : SigParts) (pools : Pools) (sort : SortId) (s t u w : Tree)
    → IsLeast parts pools sort s u → IsLeast parts pools sort t w → (u ≡ w) ↔ Same parts pools s t

-- there is one law list
abbrev pub OneLawList : Type 0
OneLawList = (parts : SigParts) (pools : Pools) (laws others : List Equation)
    → IsLawList parts pools laws → IsLawList parts pools others → laws ≡ others
