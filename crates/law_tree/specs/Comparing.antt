-- What the comparison of two items finds, and how often it asks.
use Rattle.std.specs.Prelude.{ℕ, ◌≡◌, ◌≢◌, ◌<◌, ◌≤◌, ◌+◌, ◌*◌, List, length, slice_index, Option, Some, None}
use Rattle.law_splits.specs.Agree.{AgreeAt, Agree}
use Rattle.law_ids.specs.declared.ids.ValueId.{ValueId}
use Rattle.law_tree.specs.declared.compare.Difference.{Difference}
use Rattle.law_tree.specs.Asking.{IsOneOf}

-- the items agree at the first n of the tests
abbrev pub AgreeBelow : {I : Type 0} → (I → ℕ → ValueId → Type 0) → I → I → List ℕ → ℕ → Type 0
AgreeBelow M a b tests n = (k : ℕ) → k < n → AgreeAt M a b (slice_index tests k)

-- the first of the tests at which the new item and the old one differ, and their values there
pub record IsTold {I : Type 0} (M : I → ℕ → ValueId → Type 0) (new old : I) (tests : List ℕ) (d : Difference) : Type 0 where
  pub place : ℕ
  pub within : place < length tests
  pub is : slice_index tests place ≡ d.test
  pub agree : AgreeBelow M new old tests place
  pub new_has : M new d.test d.new
  pub old_has : M old d.test d.old
  pub differ : d.old ≢ d.new

abbrev pub IsCompared : {I : Type 0} → (I → ℕ → ValueId → Type 0) → I → I → List ℕ → Option Difference → Type 0
IsCompared M new old tests None = Agree (IsOneOf tests) M new old
IsCompared M new old tests (Some d) = IsTold M new old tests d

-- at most two questions for each of the first tests, at all of which but the last the items agree
pub record IsAskedUpTo {I : Type 0} (M : I → ℕ → ValueId → Type 0) (a b : I) (tests : List ℕ) (before now : ℕ) : Type 0 where
  pub upto : ℕ
  pub within : upto ≤ length tests
  pub agree : (k : ℕ) → k + 1 < upto → AgreeAt M a b (slice_index tests k)
  pub few : now ≤ before + 2 * upto
