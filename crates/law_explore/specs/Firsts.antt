-- The first place of each class in a list.
use Rattle.std.specs.Prelude.{◌≡◌, ℕ, ◌<◌, ◌≤◌, ◌==◌, List, length, Option, if◌then◌else◌, Some, slice_get, MatchOption}

-- the first of all places that have the same class as this one
pub record IsFirstSame (classes : List ℕ) (at first : ℕ) : Type 0 where
  pub class : ℕ
  pub here : slice_get classes at ≡ Some class
  pub there : slice_get classes first ≡ Some class
  pub least : (k : ℕ) → slice_get classes k ≡ Some class → first ≤ k

-- for each place the first one that has the same class
pub record AreFirsts (classes firsts : List ℕ) : Type 0 where
  pub one_each : length firsts ≡ length classes
  pub each : (at first : ℕ) → slice_get firsts at ≡ Some first → IsFirstSame classes at first

-- A table of the first places

-- what is found for a class
abbrev pub FindsFirst : Type 0
FindsFirst = ℕ → Option ℕ

-- what is found for a class before and after the class at a place is noted: the first place that was found stays, and a
-- class that wasn't found is found at this place
abbrev pub IsNoted : FindsFirst → FindsFirst → ℕ → ℕ → ℕ → Type 0
IsNoted old new class at first = MatchOption (old class)
    ((first ≡ at) × ((w : ℕ) → new w ≡ (if class == w then Some at else old w)))
    (λ place. (first ≡ place) × ((w : ℕ) → new w ≡ old w))

-- a class that stands before this place is found at its first place, and no other is found
abbrev pub KnowsBefore : List ℕ → ℕ → FindsFirst → Type 0
KnowsBefore classes at found = (class : ℕ) → MatchOption (found class)
    ((k : ℕ) → k < at → slice_get classes k ≡ Some class → ⊥)
    (λ first. (first < at) × (slice_get classes first ≡ Some class) × ((k : ℕ) → slice_get classes k ≡ Some class → first ≤ k))
