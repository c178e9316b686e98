-- Matching under way: problems that are open, each a pattern and a term, and bindings made. These words serve the invariant
-- of a loop, and no law.
use Rattle.std.specs.Prelude.{ℕ, ◌≡◌, ◌⊎◌, ◌↔◌, List, map}
use Rattle.law_sig.specs.Lists.{In, Each}
use Rattle.law_sig.specs.Trees.{joined, holes, Subst, substituted}
use Rattle.law_sig.specs.declared.tree.SortId.{SortId}
use Rattle.law_sig.specs.declared.tree.Tree.{Tree}
use Rattle.law_sig.specs.declared.chain.Bind.{Bind}
use Rattle.law_sig.specs.Chains.{bound_in}
use Rattle.law_rewriting.specs.Heads.{Sorts, head_sort, KeepsHeads}
use Rattle.law_rewriting.specs.UnifyingState.{Problems}

abbrev pub Gives : Subst → Problems → Type 0
Gives τ ps = Each (λ (x : Tree × Tree). substituted τ x.0 ≡ x.1) ps

abbrev pub Binds : Subst → List Bind → Type 0
Binds τ bs = Each (λ (b : Bind). τ b.sort b.index ≡ b.term) bs

-- the variables of the open patterns
abbrev pub open_holes : SortId → Problems → List ℕ
open_holes s ps = joined (map (λ (x : Tree × Tree). holes s x.0) ps)

-- the open problems and the bindings together have the substitutions that give a term of a pattern
pub record IsMatching (r : Sorts) (p t : Tree) (ps : Problems) (bs : List Bind) : Type 0 where
  pub sound : (τ : Subst) → Gives τ ps → Binds τ bs → substituted τ p ≡ t
  pub gives : (τ : Subst) → KeepsHeads r τ → substituted τ p ≡ t → Gives τ ps
  pub binds : (τ : Subst) → KeepsHeads r τ → substituted τ p ≡ t → Binds τ bs
  pub own : Binds (bound_in bs) bs
  pub sorted : Each (λ (b : Bind). head_sort r b.term ≡ b.sort) bs
  pub exact : (s : SortId) (i : ℕ) → (In i (open_holes s ps) ⊎ In {A = SortId × ℕ} (s, i) (map (λ (b : Bind). (b.sort, b.index)) bs)) ↔ In i (holes s p)
