-- Laws of derivation, and of chains of steps.
use Rattle.std.specs.Prelude.{◌≡◌, List, Some}
use Rattle.law_sig.specs.Lists.{In, Each}
use Rattle.law_sig.specs.Trees.{Subst, substituted}
use Rattle.law_sig.specs.Signature.{sort_of}
use Rattle.law_sig.specs.Derive.{KeepsSorts, Derivable}
use Rattle.law_sig.specs.Chains.{Replays}
use Rattle.law_sig.specs.declared.chain.Step.{Step}
use Rattle.law_sig.specs.declared.tree.SortId.{SortId}
use Rattle.law_sig.specs.declared.tree.Tree.{Tree}
use Rattle.law_sig.specs.declared.parts.Equation.{Equation}
use Rattle.law_sig.specs.declared.parts.SigParts.{SigParts}

-- both sides are well-sorted, of one sort
pub record HasOneSort (parts : SigParts) (e : Equation) : Type 0 where
  pub sort : SortId
  pub left : sort_of parts e.left ≡ Some sort
  pub right : sort_of parts e.right ≡ Some sort

-- terms that are derivable as equal have one sort, where the sides of each equation have
abbrev pub DerivationKeepsSorts : Type 0
DerivationKeepsSorts = (parts : SigParts) (equations : List Equation) → Each (HasOneSort parts) equations
    → (s t : Tree) → Derivable parts equations s t → sort_of parts s ≡ sort_of parts t

-- what is derivable stays so under a substitution that keeps sorts
abbrev pub InstancesAreDerivable : Type 0
InstancesAreDerivable = (parts : SigParts) (equations : List Equation) (σ : Subst) → KeepsSorts parts σ
    → (s t : Tree) → Derivable parts equations s t → Derivable parts equations (substituted σ s) (substituted σ t)

-- what is derivable from equations that are derivable from others is derivable from those
abbrev pub DerivableEquationsAddNothing : Type 0
DerivableEquationsAddNothing = (parts : SigParts) (base equations : List Equation)
    → ((e : Equation) → In e equations → Derivable parts base e.left e.right)
    → (s t : Tree) → Derivable parts equations s t → Derivable parts base s t

-- a chain that replays is a derivation from its equations
abbrev pub ChainsDerive : Type 0
ChainsDerive = (parts : SigParts) (equations : List Equation) (steps : List Step) (s t : Tree)
    → Replays parts equations steps s t → Derivable parts equations s t
