-- What a law list of a signature comes with.
use Rattle.std.specs.Prelude.{◌≡◌, ℕ, ◌≤◌, List}
use Rattle.law_sig.specs.Tests.{InU, Pools, assignments, IsDefined, IsInBudget}
use Rattle.law_sig.specs.Counts.{term_count}
use Rattle.law_sig.specs.Laws.{IsBackgroundTrue, IsLawList, IsCovered}
use Rattle.law_sig.specs.declared.tree.SortId.{SortId}
use Rattle.law_sig.specs.declared.tree.Tree.{Tree}
use Rattle.law_sig.specs.declared.parts.Equation.{Equation}
use Rattle.law_sig.specs.declared.parts.SigParts.{SigParts}
use Rattle.law_draws.specs.Draws.{pools_by}
use Rattle.law_explore.specs.Refusals.{Refusal, HasSmallValues, IsRefusal}

-- nothing refuses: the signature is within all limits, its background holds, and every application is within the budget
pub record IsWithin (parts : SigParts) (terms : ℕ) : Type 0 where
  pub few_assignments : assignments parts ≤ 4096
  pub few_terms : term_count parts ≤ terms
  pub small : HasSmallValues parts
  pub background : IsBackgroundTrue parts (pools_by parts)
  pub in_budget : IsInBudget parts (pools_by parts)

-- the law list over the pools of the signature, where every term has a value at every test; and it covers the universe
pub record AreLaws (parts : SigParts) (laws : List Equation) : Type 0 where
  pub listed : IsLawList parts (pools_by parts) laws
  pub covered : IsCovered parts (pools_by parts) laws
  pub defined : (sort : SortId) (t : Tree) → InU parts sort t → IsDefined parts (pools_by parts) t

-- the law list over the pools of the signature, where nothing refuses; and it covers the universe
pub record IsLawListOf (parts : SigParts) (terms : ℕ) (pools : Pools) (laws : List Equation) : Type 0 where
  pub within : IsWithin parts terms
  pub pools_are : pools ≡ pools_by parts
  pub listed : IsLawList parts pools laws
  pub covered : IsCovered parts pools laws

-- Laws of refusals

-- there is at most one refusal
abbrev pub OneRefusal : Type 0
OneRefusal = (parts : SigParts) (terms : ℕ) (r q : Refusal) → IsRefusal parts terms r → IsRefusal parts terms q → r ≡ q

-- and none where nothing refuses
abbrev pub NoneWithin : Type 0
NoneWithin = (parts : SigParts) (terms : ℕ) → IsWithin parts terms → (r : Refusal) → IsRefusal parts terms r → ⊥
