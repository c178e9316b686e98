-- The plan meets what a valid certificate asks of its schemas and terms, apart from the chains.
use Rattle.std.specs.Prelude.{◌≡◌, List, [], ◌∷◌, ◌++◌}
use Rattle.law_sig.specs.Lists.{In}
use Rattle.law_sig.specs.Trees.{schema_of}
use Rattle.law_sig.specs.Signature.{sort_of}
use Rattle.law_sig.specs.Tests.{InU, Pools, Same}
use Rattle.law_sig.specs.Order.{IsBefore}
use Rattle.law_sig.specs.WellFormed.{IsWellFormed}
use Rattle.law_sig.specs.declared.tree.SortId.{SortId}
use Rattle.law_sig.specs.declared.tree.Tree.{Tree}
use Rattle.law_sig.specs.declared.parts.SigParts.{SigParts}
use Rattle.law_sig.specs.General.{IsNumbered}
use Rattle.law_valid.specs.Order.{AreWhole}
use Rattle.law_valid.specs.Stated.{stated}
use Rattle.law_plan.specs.Plan.{Entry, killed, moved, decisions_of, live_at, IsPlan}

-- a schema is killed by its most general instance and a target in the universe, of its sort and of a schema that stands before it
pub record IsKilledBy (parts : SigParts) (pools : Pools) (g u : Tree) : Type 0 where
  pub sort : SortId
  pub left : InU parts sort g
  pub general : IsNumbered g
  pub right : InU parts sort u
  pub falls : IsBefore parts (schema_of u) (schema_of g)
  pub same : Same parts pools g u

-- a term is moved to an earlier live term of its sort
pub record IsMovedTo (parts : SigParts) (pools : Pools) (before : List Entry) (t u : Tree) : Type 0 where
  pub earlier : In u (stated live_at before)
  pub sorts : sort_of parts t ≡ sort_of parts u
  pub same : Same parts pools t u

-- exactly the considered schemas, each with exactly its instances; and what is asked of a killed schema and of a moved term
pub record IsCertified (parts : SigParts) (pools : Pools) (xs : List Entry) : Type 0 where
  pub whole : AreWhole parts (decisions_of xs)
  pub kills : (g u : Tree) → In (killed g u) xs → IsKilledBy parts pools g u
  pub moves : (before : List Entry) (t u : Tree) (after : List Entry) → xs ≡ before ++ moved t u ∷ after → IsMovedTo parts pools before t u

abbrev pub PlanIsCertified : Type 0
PlanIsCertified = (parts : SigParts) (pools : Pools) → IsWellFormed parts → (xs : List Entry) → IsPlan parts pools xs → IsCertified parts pools xs
