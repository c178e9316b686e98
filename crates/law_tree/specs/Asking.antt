-- What may be asked, what is meant, and where a fault comes from.
use Rattle.std.specs.Prelude.{ℕ, ◌+◌, ◌-◌, ◌^◌, ◌<◌, ◌≤◌, min, List, slice_index}
use Rattle.law_sig.specs.Lists.{In}
use Rattle.law_ids.specs.declared.ids.ValueId.{ValueId}

-- what may be asked stays
abbrev pub MayStays : {I : Type 0} → (I → ℕ → Type 0) → (I → ℕ → Type 0) → Type 0
MayStays {I} P Q = (x : I) (test : ℕ) → P x test → Q x test

-- what is meant stays
abbrev pub MeaningStays : {I : Type 0} → (I → ℕ → ValueId → Type 0) → (I → ℕ → ValueId → Type 0) → Type 0
MeaningStays {I} M N = (x : I) (test : ℕ) (v : ValueId) → M x test v → N x test v

-- one of these tests
abbrev pub IsOneOf : List ℕ → ℕ → Type 0
IsOneOf tests test = In test tests

-- an item may be asked at each of the tests
abbrev pub MayAll : {I : Type 0} → (I → ℕ → Type 0) → I → List ℕ → Type 0
MayAll P x tests = (test : ℕ) → In test tests → P x test

-- and so may each of these items
abbrev pub AllMay : {I : Type 0} → (I → ℕ → Type 0) → List I → List ℕ → Type 0
AllMay {I} P items tests = (x : I) → In x items → MayAll P x tests

-- what the item is at the test u, it is at t too
abbrev pub Repeats : {I : Type 0} → (I → ℕ → ValueId → Type 0) → I → ℕ → ℕ → Type 0
Repeats M x u t = (v : ValueId) → M x u v → M x t v

-- the tests at these places repeat, for both items, one before them
abbrev pub SaysNothingNew : {I : Type 0} → (I → ℕ → ValueId → Type 0) → I → I → List ℕ → ℕ → ℕ → Type 0
SaysNothingNew M a b tests from to = (k : ℕ) → from ≤ k → k < to
    → (j : ℕ) × (j < from) × Repeats M a (slice_index tests j) (slice_index tests k) × Repeats M b (slice_index tests j) (slice_index tests k)

-- a count went up, or stands at its last value
abbrev pub Rose : ℕ → ℕ → Type 0
Rose before now = min (before + 1) (2 ^ 64 - 1) ≤ now

-- a fault is true of one of these items, at one of these tests
pub record IsOf {I F : Type 0} (True : I → ℕ → F → Type 0) (items : List I) (tests : List ℕ) (fault : F) : Type 0 where
  pub item : I
  pub is_item : In item items
  pub test : ℕ
  pub is_test : In test tests
  pub holds : True item test fault
