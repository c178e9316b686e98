-- Laws, the law list of a signature, and when laws cover the universe.
use Rattle.std.specs.Prelude.{◌≡◌, ◌≢◌, ℕ, ◌<◌, ◌⊎◌, ◌↔◌, List, ◌++◌, Some}
use Rattle.law_sig.specs.Lists.{In, Each, Rising}
use Rattle.law_sig.specs.Signature.{sort_of}
use Rattle.law_sig.specs.Tests.{InU, Pools, test_count, val, Same, Agrees}
use Rattle.law_sig.specs.Order.{IsBefore}
use Rattle.law_sig.specs.Derive.{Derivable}
use Rattle.law_sig.specs.declared.tree.SortId.{SortId}
use Rattle.law_sig.specs.declared.tree.Tree.{Tree}
use Rattle.law_sig.specs.declared.parts.Equation.{Equation}
use Rattle.law_sig.specs.declared.parts.SigParts.{SigParts}

-- both sides are in the universe, of one sort, and have the same value at every test
pub record IsLaw (parts : SigParts) (pools : Pools) (e : Equation) : Type 0 where
  pub sort : SortId
  pub left : InU parts sort e.left
  pub right : InU parts sort e.right
  pub agree : Agrees parts pools e.left e.right

-- each background equation holds at every test
abbrev pub IsBackgroundTrue : SigParts → Pools → Type 0
IsBackgroundTrue parts pools = Each (λ (e : Equation). Agrees parts pools e.left e.right) parts.settings.background

-- at some test both terms have a value, and not the same one
pub record IsToldApart (parts : SigParts) (pools : Pools) (s t : Tree) : Type 0 where
  pub test : ℕ
  pub within : test < test_count parts pools
  pub left : Tree
  pub right : Tree
  pub left_value : val parts pools test s ≡ Some left
  pub right_value : val parts pools test t ≡ Some right
  pub differ : left ≢ right

-- coverage: any two terms of the universe of one sort are told apart by a test, or are derivable as equal from the
-- background and the laws; and every law is one
pub record IsCovered (parts : SigParts) (pools : Pools) (laws : List Equation) : Type 0 where
  pub terms : (sort : SortId) (s t : Tree) → InU parts sort s → InU parts sort t
      → IsToldApart parts pools s t ⊎ Derivable parts (parts.settings.background ++ laws) s t
  pub laws_hold : Each (IsLaw parts pools) laws

-- u is the first term of the universe, in the order of exploring, that has the sort of t and agrees with it
pub record IsLeast (parts : SigParts) (pools : Pools) (sort : SortId) (t u : Tree) : Type 0 where
  pub sorted : sort_of parts t ≡ Some sort
  pub bounded : InU parts sort u
  pub same : Same parts pools t u
  pub least : (w : Tree) → InU parts sort w → Same parts pools t w → (w ≡ u) ⊎ IsBefore parts u w

-- a term of the universe, and another one that is its least
pub record IsListed (parts : SigParts) (pools : Pools) (e : Equation) : Type 0 where
  pub sort : SortId
  pub bounded : InU parts sort e.left
  pub least : IsLeast parts pools sort e.left e.right
  pub other : e.left ≢ e.right

-- the law list: for each term of the universe that isn't its own least the equation with its least, in the order of
-- exploring of the left sides
pub record IsLawList (parts : SigParts) (pools : Pools) (laws : List Equation) : Type 0 where
  pub members : (e : Equation) → In e laws ↔ IsListed parts pools e
  pub ordered : Rising (λ (d e : Equation). IsBefore parts d.left e.left) laws
