-- Unification under way: problems that are open, and bindings made. These words serve the invariant of a loop, and no law.
use Rattle.std.specs.Prelude.{ℕ, ◌≡◌, ◌≢◌, ◌+◌, ◌⊎◌, List, [], ◌∷◌, map, Some}
use Rattle.law_sig.specs.Lists.{In, Each}
use Rattle.law_sig.specs.Trees.{node_count, holes, Subst, substituted}
use Rattle.law_sig.specs.Signature.{sort_of}
use Rattle.law_sig.specs.declared.tree.SortId.{SortId}
use Rattle.law_sig.specs.declared.tree.SymId.{SymId}
use Rattle.law_sig.specs.declared.parts.SigParts.{SigParts}
use Rattle.law_sig.specs.declared.tree.Tree.{Tree}
use Rattle.law_sig.specs.declared.tree.Tree.TheVariants.{Var}
use Rattle.law_sig.specs.declared.chain.Bind.{Bind}
use Rattle.law_sig.specs.Chains.{bound_in}
use Rattle.law_rewriting.specs.Heads.{Sorts, KeepsHeads, sorts_in}

abbrev pub Problems : Type 0
Problems = List (Tree × Tree)

-- one variable put, all others kept
abbrev pub single : SortId → ℕ → Tree → Subst
single s i t = bound_in (record { sort = s; index = i; term = t } ∷ [])

abbrev pub put_problems : Subst → Problems → Problems
put_problems θ ps = map (λ (p : Tree × Tree). (substituted θ p.0, substituted θ p.1)) ps

abbrev pub put_bind : Subst → Bind → Bind
put_bind θ b = record { sort = b.sort; index = b.index; term = substituted θ b.term }

abbrev pub put_binds : Subst → List Bind → List Bind
put_binds θ bs = map (put_bind θ) bs

abbrev pub bound_more : SortId → ℕ → Tree → List Bind → List Bind
bound_more s i t bs = record { sort = s; index = i; term = t } ∷ put_binds (single s i t) bs

-- a substitution makes the sides of each problem one
abbrev pub Solves : Subst → Problems → Type 0
Solves τ ps = Each (λ (p : Tree × Tree). substituted τ p.0 ≡ substituted τ p.1) ps

-- each binding holds of the substitution
abbrev pub Follows : Subst → List Bind → Type 0
Follows τ bs = Each (λ (b : Bind). τ b.sort b.index ≡ substituted τ b.term) bs

abbrev pub Rests : Subst → Tree → Type 0
Rests σ t = substituted σ t ≡ t

abbrev pub AllRest : Subst → Problems → Type 0
AllRest σ ps = Each (λ (p : Tree × Tree). Rests σ p.0 × Rests σ p.1) ps

-- no bound variable stands in a bound term, or for itself
abbrev pub AreClean : Subst → List Bind → Type 0
AreClean σ bs = Each (λ (b : Bind). Rests σ b.term × (b.term ≢ Var b.sort b.index)) bs

-- each variable of the one is a variable of one of two
abbrev pub Among : Tree → Tree → Tree → Type 0
Among a b t = (s : SortId) (i : ℕ) → In i (holes s t) → In i (holes s a) ⊎ In i (holes s b)

-- both terms are well-sorted, of one sort
pub record HaveOneSort (parts : SigParts) (a b : Tree) : Type 0 where
  pub sort : SortId
  pub left : sort_of parts a ≡ Some sort
  pub right : sort_of parts b ≡ Some sort

-- a signature with these result sorts
abbrev pub HasSorts : SigParts → Sorts → Type 0
HasSorts parts r = (f : SymId) → sorts_in parts f ≡ r f

abbrev pub AreWell : SigParts → Problems → Type 0
AreWell parts ps = Each (λ (p : Tree × Tree). HaveOneSort parts p.0 p.1) ps

abbrev pub BindWell : SigParts → List Bind → Type 0
BindWell parts bs = Each (λ (b : Bind). sort_of parts b.term ≡ Some b.sort) bs

-- the open problems and the bindings together have the unifiers of two terms
pub record IsOpen (r : Sorts) (a b : Tree) (ps : Problems) (bs : List Bind) : Type 0 where
  pub sound : (τ : Subst) → Solves τ ps → Follows τ bs → substituted τ a ≡ substituted τ b
  pub solves : (τ : Subst) → KeepsHeads r τ → substituted τ a ≡ substituted τ b → Solves τ ps
  pub follows : (τ : Subst) → KeepsHeads r τ → substituted τ a ≡ substituted τ b → Follows τ bs
  pub keeps : KeepsHeads r (bound_in bs)
  pub own : Follows (bound_in bs) bs
  pub rest : AllRest (bound_in bs) ps
  pub clean : AreClean (bound_in bs) bs
  pub among : Each (λ (p : Tree × Tree). Among a b p.0 × Among a b p.1) ps
  pub well : (parts : SigParts) → HasSorts parts r → HaveOneSort parts a b → AreWell parts ps × BindWell parts bs

abbrev pub both_args : List Tree → List Tree → Problems
both_args [] us = []
both_args (t ∷ ts) [] = []
both_args (t ∷ ts) (u ∷ us) = (t, u) ∷ both_args ts us

-- how many nodes the problems have
abbrev pub open_nodes : Problems → ℕ
open_nodes [] = 0
open_nodes (p ∷ ps) = (node_count p.0 + node_count p.1) + open_nodes ps
