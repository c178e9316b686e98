-- Matching and unification: substitutions that take each variable to a term of its own sort, by heads.
use Rattle.std.specs.Prelude.{◌≡◌, ℕ, ◌↔◌, List, map}
use Rattle.law_sig.specs.Lists.{In, Each}
use Rattle.law_sig.specs.Trees.{holes, Subst, substituted}
use Rattle.law_sig.specs.declared.tree.SortId.{SortId}
use Rattle.law_sig.specs.declared.tree.Tree.{Tree}
use Rattle.law_sig.specs.declared.chain.Bind.{Bind}
use Rattle.law_sig.specs.Chains.{bound_in}
use Rattle.law_rewriting.specs.Heads.{Sorts, head_sort, KeepsHeads}

-- Matching

-- bindings of exactly the pattern's variables that give the term
pub record IsMatch (r : Sorts) (pattern t : Tree) (binds : List Bind) : Type 0 where
  pub gives : substituted (bound_in binds) pattern ≡ t
  pub sorted : Each (λ (b : Bind). head_sort r b.term ≡ b.sort) binds
  pub exact : (sort : SortId) (index : ℕ) → In {A = SortId × ℕ} (sort, index) (map (λ (b : Bind). (b.sort, b.index)) binds) ↔ In index (holes sort pattern)

-- no substitution gives the term
abbrev pub HasNoMatch : Sorts → Tree → Tree → Type 0
HasNoMatch r pattern t = (σ : Subst) → KeepsHeads r σ → substituted σ pattern ≡ t → ⊥

-- Unification

pub record IsUnifier (r : Sorts) (σ : Subst) (s t : Tree) : Type 0 where
  pub keeps : KeepsHeads r σ
  pub same : substituted σ s ≡ substituted σ t

-- the second substitution is the first one followed by another
pub record GoesThrough (r : Sorts) (σ τ : Subst) : Type 0 where
  pub rest : Subst
  pub keeps : KeepsHeads r rest
  pub is : (sort : SortId) (index : ℕ) → τ sort index ≡ substituted rest (σ sort index)

-- a unifier through which every unifier goes
pub record IsMostGeneral (r : Sorts) (σ : Subst) (s t : Tree) : Type 0 where
  pub unifies : IsUnifier r σ s t
  pub general : (τ : Subst) → IsUnifier r τ s t → GoesThrough r σ τ

abbrev pub NoUnifier : Sorts → Tree → Tree → Type 0
NoUnifier r s t = (τ : Subst) → IsUnifier r τ s t → ⊥

-- bindings that are a most general unifier; none of the variables that they bind stands in one of their terms
pub record AreUnifier (r : Sorts) (s t : Tree) (binds : List Bind) : Type 0 where
  pub general : IsMostGeneral r (bound_in binds) s t
  pub sorted : Each (λ (b : Bind). head_sort r b.term ≡ b.sort) binds
  pub absent : (b c : Bind) → In b binds → In c binds → In b.index (holes b.sort c.term) → ⊥
