-- The central law of the plan.
use Rattle.std.specs.Prelude.{◌≡◌, ◌≢◌, ◌↔◌, List, ◌++◌}
use Rattle.law_sig.specs.Lists.{In}
use Rattle.law_sig.specs.Trees.{schema_of}
use Rattle.law_sig.specs.Tests.{InU, Pools}
use Rattle.law_sig.specs.Order.{IsBefore}
use Rattle.law_sig.specs.WellFormed.{IsWellFormed}
use Rattle.law_sig.specs.declared.tree.SortId.{SortId}
use Rattle.law_sig.specs.declared.tree.Tree.{Tree}
use Rattle.law_sig.specs.declared.parts.SigParts.{SigParts}
use Rattle.law_sig.specs.Least.{HasLeast, IsOwnLeast}
use Rattle.law_plan.specs.Kills.{IsGeneral, Kills}
use Rattle.law_plan.specs.Plan.{Entry, live, IsPlan}
use Rattle.law_plan.specs.Search.{IsFound, AreFollowed, AreAll}

-- every term of the universe has a least, whatever is over budget
abbrev pub EachHasLeast : Type 0
EachHasLeast = (parts : SigParts) (pools : Pools) → IsWellFormed parts → (sort : SortId) (t : Tree) → InU parts sort t
    → (u : Tree) × HasLeast parts pools t u

-- no instance of a killed schema is its own least
abbrev pub KilledHasNoLeast : Type 0
KilledHasNoLeast = (parts : SigParts) (pools : Pools) → IsWellFormed parts → (c g u t : Tree) → Kills parts pools c g u
    → schema_of t ≡ c → IsOwnLeast parts pools t → ⊥

-- the live terms of the plan are exactly the terms of the universe that are their own least
abbrev pub LiveIsLeast : Type 0
LiveIsLeast = (parts : SigParts) (pools : Pools) → IsWellFormed parts → (xs : List Entry) → IsPlan parts pools xs
    → (t : Tree) → In (live t) xs ↔ IsOwnLeast parts pools t

-- where these are the least terms of the schemas before c: a live term is like the most general instance exactly where it
-- is the least of that, and its schema stands before c
abbrev pub SchemaIsDecided : Type 0
SchemaIsDecided = (parts : SigParts) (pools : Pools) (lives : List Tree) (c g : Tree) → IsGeneral parts c g
    → ((u : Tree) → In u lives ↔ (IsOwnLeast parts pools u × IsBefore parts (schema_of u) c))
    → (u : Tree) → IsFound parts pools lives g u ↔ Kills parts pools c g u

-- where these are the least terms before t: a live term is like t exactly where it is the least of t, and not t
abbrev pub TermIsDecided : Type 0
TermIsDecided = (parts : SigParts) (pools : Pools) (lives : List Tree) (sort : SortId) (t : Tree) → InU parts sort t
    → ((u : Tree) → In u lives ↔ (IsOwnLeast parts pools u × IsBefore parts u t))
    → (u : Tree) → IsFound parts pools lives t u ↔ (HasLeast parts pools t u × (t ≢ u))

-- whoever goes in order to the end has the plan
abbrev pub FollowedIsPlan : Type 0
FollowedIsPlan = (parts : SigParts) (pools : Pools) → IsWellFormed parts → (xs : List Entry)
    → AreFollowed parts pools xs → AreAll parts xs → IsPlan parts pools xs

-- and there is one plan
abbrev pub OnePlan : Type 0
OnePlan = (parts : SigParts) (pools : Pools) → IsWellFormed parts → (xs ys : List Entry) → IsPlan parts pools xs → IsPlan parts pools ys → xs ≡ ys

-- the entries so far are a beginning of the plan
abbrev pub FollowedBegins : Type 0
FollowedBegins = (parts : SigParts) (pools : Pools) → IsWellFormed parts → (xs ys : List Entry) → AreFollowed parts pools xs → IsPlan parts pools ys
    → (more : List Entry) × (ys ≡ xs ++ more)
