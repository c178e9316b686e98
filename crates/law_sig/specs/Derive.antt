-- Equational derivation, by Birkhoff's five rules.
use Rattle.std.specs.Prelude.{◌≡◌, ℕ, List, ◌∷◌, ◌++◌, Some, IsTrue}
use Rattle.law_sig.specs.Lists.{In}
use Rattle.law_sig.specs.Trees.{Subst, substituted}
use Rattle.law_sig.specs.Signature.{is_declared_sort, sort_of}
use Rattle.law_sig.specs.declared.tree.SortId.{SortId}
use Rattle.law_sig.specs.declared.tree.SymId.{SymId}
use Rattle.law_sig.specs.declared.tree.Tree.{Tree}
use Rattle.law_sig.specs.declared.tree.Tree.TheVariants.{App}
use Rattle.law_sig.specs.declared.parts.Equation.{Equation}
use Rattle.law_sig.specs.declared.parts.SigParts.{SigParts}

-- each variable of a declared sort goes to a term of that sort
abbrev pub KeepsSorts : SigParts → Subst → Type 0
KeepsSorts parts σ = (sort : SortId) (index : ℕ) → IsTrue (is_declared_sort parts sort) → sort_of parts (σ sort index) ≡ Some sort

-- two terms are derivable as equal from the equations. The rules speak of any trees, with variables of any index; where the
-- equations have two sides of one sort each, a law says that no rule leads from a well-sorted term to one of another sort
pub data Derivable (parts : SigParts) (equations : List Equation) : Tree → Tree → Type 0 where
  reflexive : (s : Tree) → Derivable parts equations s s
  symmetric : (s t : Tree) → Derivable parts equations s t → Derivable parts equations t s
  transitive : (s t u : Tree) → Derivable parts equations s t → Derivable parts equations t u → Derivable parts equations s u
  replaced : (f : SymId) (before after : List Tree) (s t : Tree) → Derivable parts equations s t
      → Derivable parts equations (App f (before ++ s ∷ after)) (App f (before ++ t ∷ after))
  instance : (e : Equation) (σ : Subst) → In e equations → KeepsSorts parts σ
      → Derivable parts equations (substituted σ e.left) (substituted σ e.right)
