-- Terms that no test tells apart, and the first one that is like a term. Two terms without a value at a test are alike there.
use Rattle.std.specs.Prelude.{◌≡◌, Some}
use Rattle.law_sig.specs.Signature.{sort_of}
use Rattle.law_sig.specs.Tests.{Pools, Same}
use Rattle.law_sig.specs.Laws.{IsLeast}
use Rattle.law_sig.specs.declared.tree.SortId.{SortId}
use Rattle.law_sig.specs.declared.tree.Tree.{Tree}
use Rattle.law_sig.specs.declared.parts.SigParts.{SigParts}

-- two terms of one sort that at every test have the same value, or neither has one
pub record AreAlike (parts : SigParts) (pools : Pools) (s t : Tree) : Type 0 where
  pub sort : SortId
  pub left : sort_of parts s ≡ Some sort
  pub right : sort_of parts t ≡ Some sort
  pub same : Same parts pools s t

-- u is the least of t: the first term of the universe, in the order of exploring, that is like it
pub record HasLeast (parts : SigParts) (pools : Pools) (t u : Tree) : Type 0 where
  pub sort : SortId
  pub least : IsLeast parts pools sort t u

-- a term of the universe that is its own least
abbrev pub IsOwnLeast : SigParts → Pools → Tree → Type 0
IsOwnLeast parts pools t = HasLeast parts pools t t
