-- There is a plan, and each of its items has an entry.
use Rattle.std.specs.Prelude.{◌≡◌, ◌⊎◌, List, ◌∷◌, ◌++◌, map}
use Rattle.law_sig.specs.Lists.{In}
use Rattle.law_sig.specs.Tests.{Pools}
use Rattle.law_sig.specs.WellFormed.{IsWellFormed}
use Rattle.law_sig.specs.declared.parts.SigParts.{SigParts}
use Rattle.law_sig.specs.Expected.{IsFirstAbove}
use Rattle.law_valid.specs.Stated.{stated}
use Rattle.law_plan.specs.Plan.{Item, Precedes, Entry, item_of, spread_at, IsPlanned, IsPlan}
use Rattle.law_plan.specs.Search.{IsDue, IsNext, AreFollowed, AreAll}

-- there is one next entry
abbrev pub NextIsOne : Type 0
NextIsOne = (parts : SigParts) (pools : Pools) → IsWellFormed parts → (xs : List Entry) → AreFollowed parts pools xs → (d e : Entry)
    → IsNext parts pools xs d → IsNext parts pools xs e → d ≡ e

-- the first item that is due is the one of the plan's next entry, before anything is decided of it
pub record GoesOnWith (ys xs : List Entry) (x : Item) : Type 0 where
  pub entry : Entry
  pub about : item_of entry ≡ x
  pub others : List Entry
  pub split : ys ≡ xs ++ entry ∷ others

abbrev pub ItemIsOfPlan : Type 0
ItemIsOfPlan = (parts : SigParts) (pools : Pools) → IsWellFormed parts → (xs ys : List Entry) → AreFollowed parts pools xs → IsPlan parts pools ys
    → (x : Item) → IsFirstAbove (Precedes parts) (IsDue parts xs) (map item_of xs) x → GoesOnWith ys xs x

-- where not all is done, there is a next entry
abbrev pub SearchGoesOn : Type 0
SearchGoesOn = (parts : SigParts) (pools : Pools) → IsWellFormed parts → (xs : List Entry) → AreFollowed parts pools xs
    → ((e : Entry) × IsNext parts pools xs e) ⊎ AreAll parts xs

abbrev pub PlanExists : Type 0
PlanExists = (parts : SigParts) (pools : Pools) → IsWellFormed parts → (xs : List Entry) × IsPlan parts pools xs

-- and it is found in order, to the end
pub record IsFoundInOrder (parts : SigParts) (pools : Pools) (xs : List Entry) : Type 0 where
  pub followed : AreFollowed parts pools xs
  pub all : AreAll parts xs

abbrev pub PlanIsFollowed : Type 0
PlanIsFollowed = (parts : SigParts) (pools : Pools) → IsWellFormed parts → (xs : List Entry) → IsPlan parts pools xs → IsFoundInOrder parts pools xs

-- an entry about this item
pub record HasEntry (xs : List Entry) (x : Item) : Type 0 where
  pub entry : Entry
  pub at : In entry xs
  pub about : item_of entry ≡ x

-- each schema that is considered has an entry in the plan, and so has each instance of a spread schema
abbrev pub ItemsHaveEntries : Type 0
ItemsHaveEntries = (parts : SigParts) (pools : Pools) → IsWellFormed parts → (xs : List Entry) → IsPlan parts pools xs
    → (x : Item) → IsPlanned parts pools (stated spread_at xs) x → HasEntry xs x
