-- When a list is the universe.
use Rattle.std.specs.Prelude.{◌↔◌, List}
use Rattle.law_sig.specs.Lists.{In, Rising}
use Rattle.law_sig.specs.Tests.{InU}
use Rattle.law_sig.specs.Order.{IsBefore}
use Rattle.law_sig.specs.declared.tree.SortId.{SortId}
use Rattle.law_sig.specs.declared.tree.Tree.{Tree}
use Rattle.law_sig.specs.declared.parts.SigParts.{SigParts}

-- exactly the terms of the universe, of all sorts, in the order of exploring
pub record IsUniverse (parts : SigParts) (terms : List Tree) : Type 0 where
  pub ordered : Rising (IsBefore parts) terms
  pub members : (t : Tree) → In t terms ↔ ((sort : SortId) × InU parts sort t)
