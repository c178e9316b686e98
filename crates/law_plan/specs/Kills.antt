-- The most general instance of a schema, and when it kills the schema.
use Rattle.std.specs.Prelude.{◌≡◌}
use Rattle.law_sig.specs.Trees.{schema_of}
use Rattle.law_sig.specs.General.{IsNumbered}
use Rattle.law_sig.specs.Tests.{InU, Pools}
use Rattle.law_sig.specs.Order.{IsBefore}
use Rattle.law_sig.specs.Least.{HasLeast}
use Rattle.law_sig.specs.declared.tree.SortId.{SortId}
use Rattle.law_sig.specs.declared.tree.Tree.{Tree}
use Rattle.law_sig.specs.declared.parts.SigParts.{SigParts}

-- the most general instance of a schema: its variables of each sort are numbered from 0, from left to right. Where a sort
-- has more holes than variables, no term of the universe is one
pub record IsGeneral (parts : SigParts) (c g : Tree) : Type 0 where
  pub sort : SortId
  pub bounded : InU parts sort g
  pub numbered : IsNumbered g
  pub schema : schema_of g ≡ c

-- a schema is killed by its most general instance g, where the least u of g has a schema that stands before it
pub record Kills (parts : SigParts) (pools : Pools) (c g u : Tree) : Type 0 where
  pub general : IsGeneral parts c g
  pub least : HasLeast parts pools g u
  pub falls : IsBefore parts (schema_of u) c

-- no most general instance kills it
abbrev pub IsSpared : SigParts → Pools → Tree → Type 0
IsSpared parts pools c = (g u : Tree) → Kills parts pools c g u → ⊥
