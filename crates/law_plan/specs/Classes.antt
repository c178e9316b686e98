-- Classes of schemas by flat tests, and the search that asks for the class first.
use Rattle.std.specs.Prelude.{◌≡◌, ℕ, ◌<◌, List, Some}
use Rattle.law_sig.specs.Lists.{In}
use Rattle.law_sig.specs.Trees.{schema_of}
use Rattle.law_sig.specs.Signature.{sort_of}
use Rattle.law_sig.specs.Tests.{InU, Pools, test_count, IsFlat, val}
use Rattle.law_sig.specs.WellFormed.{IsWellFormed}
use Rattle.law_sig.specs.declared.tree.SortId.{SortId}
use Rattle.law_sig.specs.declared.tree.Tree.{Tree}
use Rattle.law_sig.specs.declared.parts.SigParts.{SigParts}
use Rattle.law_sig.specs.Least.{IsOwnLeast}
use Rattle.law_valid.specs.Stated.{stated}
use Rattle.law_plan.specs.Plan.{Entry, spread_at, live_at, IsPlan}
use Rattle.law_plan.specs.Search.{IsFound, NoneFound, AreFollowed}

-- two schemas of one sort that at every flat test have the same value, or neither has one
pub record AreOfClass (parts : SigParts) (pools : Pools) (c d : Tree) : Type 0 where
  pub sort : SortId
  pub left : sort_of parts c ≡ Some sort
  pub right : sort_of parts d ≡ Some sort
  pub same : (test : ℕ) → test < test_count parts pools → IsFlat parts test → val parts pools test c ≡ val parts pools test d

-- live terms are their own least, and of spread schemas
abbrev pub AreOwned : SigParts → Pools → List Tree → List Tree → Type 0
AreOwned parts pools spreads lives = (u : Tree) → In u lives → IsOwnLeast parts pools u × In (schema_of u) spreads

-- so they are at every step of the search
abbrev pub FollowedAreOwned : Type 0
FollowedAreOwned = (parts : SigParts) (pools : Pools) → IsWellFormed parts → (xs : List Entry) → AreFollowed parts pools xs
    → AreOwned parts pools (stated spread_at xs) (stated live_at xs)

-- a live term that is like a term has a schema that is of one class with that of the term: so it stands below that class
abbrev pub FoundInClass : Type 0
FoundInClass = (parts : SigParts) (pools : Pools) (spreads lives : List Tree) → AreOwned parts pools spreads lives
    → (sort : SortId) (t u : Tree) → InU parts sort t → IsFound parts pools lives t u → In (schema_of u) spreads × AreOfClass parts pools (schema_of t) (schema_of u)

-- and where no spread schema is of one class with that of the term, there is none
abbrev pub NoClassNoneFound : Type 0
NoClassNoneFound = (parts : SigParts) (pools : Pools) (spreads lives : List Tree) → AreOwned parts pools spreads lives
    → (sort : SortId) (t : Tree) → InU parts sort t → ((d : Tree) → In d spreads → AreOfClass parts pools (schema_of t) d → ⊥) → NoneFound parts pools lives t

-- each class of the plan has a live term
pub record HasLiveOfClass (parts : SigParts) (pools : Pools) (spreads lives : List Tree) (c : Tree) : Type 0 where
  pub live_one : Tree
  pub held : In live_one lives
  pub owned : In (schema_of live_one) spreads
  pub of_class : AreOfClass parts pools c (schema_of live_one)

abbrev pub ClassesHaveLiveTerms : Type 0
ClassesHaveLiveTerms = (parts : SigParts) (pools : Pools) → IsWellFormed parts → (xs : List Entry) → IsPlan parts pools xs
    → (c : Tree) → In c (stated spread_at xs) → HasLiveOfClass parts pools (stated spread_at xs) (stated live_at xs) c

-- to be of one class is an equivalence on well-sorted terms, so each schema is in one class
pub record IsEquivalenceOfClasses (parts : SigParts) (pools : Pools) : Type 0 where
  pub itself : (sort : SortId) (c : Tree) → sort_of parts c ≡ Some sort → AreOfClass parts pools c c
  pub back : (c d : Tree) → AreOfClass parts pools c d → AreOfClass parts pools d c
  pub chain : (c d e : Tree) → AreOfClass parts pools c d → AreOfClass parts pools d e → AreOfClass parts pools c e

abbrev pub ClassesPartition : Type 0
ClassesPartition = (parts : SigParts) (pools : Pools) → IsEquivalenceOfClasses parts pools
