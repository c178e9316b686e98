-- The search as a program goes: schema by schema, and after a spread schema its instances, one by one.
use Rattle.std.specs.Prelude.{List, [], ◌∷◌, ◌++◌, map, Option, None}
use Rattle.law_sig.specs.Tests.{Pools}
use Rattle.law_sig.specs.WellFormed.{IsWellFormed}
use Rattle.law_sig.specs.declared.parts.SigParts.{SigParts}
use Rattle.law_sig.specs.Expected.{IsFirstAbove}
use Rattle.law_valid.specs.Order.{Block, Progress, at_start, Decision, after, IsExpected, IsNoneExpected, GoInOrder}
use Rattle.law_valid.specs.Stated.{stated}
use Rattle.law_plan.specs.Plan.{Precedes, Entry, decision_of, decisions_of, item_in, item_of, spread_at, schema_at, live_at, IsPlan}
use Rattle.law_plan.specs.Search.{IsDue, IsDecided, AreFollowed}

-- how far the entries have come, with the spread schema whose instances are looked at
abbrev pub progress : SigParts → List Entry → Option Block → Progress
progress parts xs block = record { parts = parts; spreads = stated spread_at xs; schemas = stated schema_at xs; lives = stated live_at xs; block = block }

-- entries found so: each is expected, and decided by the live terms before it
pub data AreWalked (parts : SigParts) (pools : Pools) : List Entry → Option Block → Type 0 where
  begun : AreWalked parts pools [] None
  goes : (xs : List Entry) (block : Option Block) (e : Entry) → AreWalked parts pools xs block → IsExpected (progress parts xs block) (decision_of e)
      → IsDecided parts pools (stated live_at xs) e → AreWalked parts pools (xs ++ e ∷ []) (after (progress parts xs block) (decision_of e)).block

-- whoever goes so goes in order
abbrev pub WalkedIsFollowed : Type 0
WalkedIsFollowed = (parts : SigParts) (pools : Pools) → IsWellFormed parts → (xs : List Entry) (block : Option Block)
    → AreWalked parts pools xs block → AreFollowed parts pools xs

-- what is expected is the first item that is due
abbrev pub ExpectedIsFirst : Type 0
ExpectedIsFirst = (parts : SigParts) (pools : Pools) → IsWellFormed parts → (xs : List Entry) (block : Option Block)
    → AreWalked parts pools xs block → (x : Decision) → IsExpected (progress parts xs block) x
    → IsFirstAbove (Precedes parts) (IsDue parts xs) (map item_of xs) (item_in x)

-- and has the plan where nothing more is expected
abbrev pub WalkedIsPlan : Type 0
WalkedIsPlan = (parts : SigParts) (pools : Pools) → IsWellFormed parts → (xs : List Entry) (block : Option Block)
    → AreWalked parts pools xs block → IsNoneExpected (progress parts xs block) → IsPlan parts pools xs

-- the plan itself goes in order
abbrev pub PlanGoesInOrder : Type 0
PlanGoesInOrder = (parts : SigParts) (pools : Pools) → IsWellFormed parts → (xs : List Entry) → IsPlan parts pools xs
    → GoInOrder (at_start parts) (decisions_of xs)
