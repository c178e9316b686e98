-- When a certificate is valid.
use Rattle.std.specs.Prelude.{◌≡◌, ℕ, ◌+◌, ◌≤◌, List, [], ◌∷◌, ◌++◌, length, Some}
use Rattle.law_sig.specs.Lists.{In, Each}
use Rattle.law_sig.specs.Trees.{schema_of}
use Rattle.law_sig.specs.Signature.{sort_of}
use Rattle.law_sig.specs.WellFormed.{IsWellFormed}
use Rattle.law_sig.specs.Tests.{InU, Pools, assignments, Agrees}
use Rattle.law_sig.specs.Order.{IsBefore}
use Rattle.law_sig.specs.Laws.{IsLaw, IsBackgroundTrue}
use Rattle.law_sig.specs.declared.tree.SortId.{SortId}
use Rattle.law_sig.specs.declared.parts.Equation.{Equation}
use Rattle.law_sig.specs.declared.parts.SigParts.{SigParts}
use Rattle.law_sig.specs.General.{IsNumbered}
use Rattle.law_draws.specs.Draws.{pools_by}
use Rattle.law_draws.specs.Sizes.{AreSmall}
use Rattle.law_valid.specs.declared.certificate.Entry.{Entry}
use Rattle.law_valid.specs.declared.certificate.Entry.TheVariants as e
use Rattle.law_valid.specs.declared.certificate.SortTree.{SortTree}
use Rattle.law_sig.specs.declared.chain.Step.{Step}
use Rattle.law_valid.specs.Stated.{stated, schema_at, spread_at, live_at, terms_after, known}
use Rattle.law_sig.specs.Chains.{Replays}
use Rattle.law_sig.specs.Schemas.{AreExactly, IsConsidered, IsInstance}
use Rattle.law_valid.specs.Trees.{AreTrees}

-- Before the entries

-- well-formed, the variables can be given places in at most 4,096 ways, and no value has more than 4,096 nodes, which given
-- ones never have
pub record IsWithinLimits (parts : SigParts) : Type 0 where
  pub well_formed : IsWellFormed parts
  pub few_assignments : assignments parts ≤ 4096
  pub small_values : Each (Each AreSmall) (pools_by parts)

-- Entries, each by those before it

-- equation numbers run on from the background
abbrev pub IsNextNumber : SigParts → List Entry → ℕ → Type 0
IsNextNumber parts before number = number ≡ length (known parts before) + 1

-- both sides are well-sorted, of one sort; the chain leads from left to right by equations before it
pub record IsLemma (parts : SigParts) (before : List Entry) (q : Equation) (steps : List Step) : Type 0 where
  pub sort : SortId
  pub left : sort_of parts q.left ≡ Some sort
  pub right : sort_of parts q.right ≡ Some sort
  pub chain : Replays parts (known parts before) steps q.left q.right

-- a schema is killed by its most general instance and a target in the universe, of its sort and of a schema that stands
-- before it; a chain by equations before it leads from one to the other
pub record IsKilled (parts : SigParts) (before : List Entry) (q : Equation) (steps : List Step) : Type 0 where
  pub sort : SortId
  pub left : InU parts sort q.left
  pub general : IsNumbered q.left
  pub right : InU parts sort q.right
  pub falls : IsBefore parts (schema_of q.right) (schema_of q.left)
  pub chain : Replays parts (known parts before) steps q.left q.right

-- a term is moved to an earlier live term of its sort; a chain by equations before it leads from one to the other
pub record IsMoved (parts : SigParts) (before : List Entry) (q : Equation) (steps : List Step) : Type 0 where
  pub earlier : In q.right (stated live_at before)
  pub sorts : sort_of parts q.left ≡ sort_of parts q.right
  pub chain : Replays parts (known parts before) steps q.left q.right

-- What is asked of an entry, by the entries before it and after it: after a spread schema stand exactly its instances over
-- all live terms of the certificate, after a killed one no term; and a killed schema and a moved term have their target's
-- value at every test
abbrev pub IsEntry : SigParts → Pools → List Entry → List Entry → Entry → List Entry → Type 0
IsEntry parts pools all before (e.Law number q) after = IsNextNumber parts before number × IsLaw parts pools q
IsEntry parts pools all before (e.Lemma number q steps) after = IsNextNumber parts before number × IsLemma parts before q steps
IsEntry parts pools all before (e.Spread c) after = AreExactly parts (IsInstance parts (stated live_at all) c) (terms_after after)
IsEntry parts pools all before (e.Killed q steps) after = IsKilled parts before q steps × Agrees parts pools q.left q.right × (terms_after after ≡ [])
IsEntry parts pools all before (e.Live t) after = Unit {0}
IsEntry parts pools all before (e.Moved q steps) after = IsMoved parts before q steps × Agrees parts pools q.left q.right

-- The whole certificate: its pools are those that the signature gives, or those of its seed; the schema entries are exactly
-- the schemas that are considered over its own spread ones, and no term stands before the first of them
pub record IsValid (parts : SigParts) (pools : Pools) (entries : List Entry) (trees : List SortTree) : Type 0 where
  pub limits : IsWithinLimits parts
  pub pools_are : pools ≡ pools_by parts
  pub background : IsBackgroundTrue parts pools
  pub schemas : AreExactly parts (IsConsidered parts (stated spread_at entries)) (stated schema_at entries)
  pub first : terms_after entries ≡ []
  pub each : (before : List Entry) (x : Entry) (after : List Entry) → entries ≡ before ++ x ∷ after → IsEntry parts pools entries before x after
  pub trees_are : AreTrees parts pools entries trees
