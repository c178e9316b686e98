-- Counts of faults, which never fall, and the fault that each failed call has to show.
use Rattle.std.specs.Prelude.{◌≡◌, ℕ, ◌+◌, ◌-◌, ◌^◌, ◌≤◌, min, Result, OnOk, OnErr}

-- the value at which a counter stops, 2^64 - 1
abbrev pub last_count : ℕ
last_count = 2 ^ 64 - 1

-- the next number of a counter, which stops at its last value
abbrev pub next_count : ℕ → ℕ
next_count n = min (n + 1) last_count

-- a count rose: it is greater than before, or stands at the last value
abbrev pub Rose : ℕ → ℕ → Type 0
Rose before now = next_count before ≤ now

-- what a count of faults did in a call with this answer
pub record HasCause {A E : Type 0} (before now : ℕ) (answer : Result A E) : Type 0 where
  -- it did not fall
  pub later : before ≤ now
  -- it is as before where the call succeeded
  pub kept : OnOk answer (now ≡ before)
  -- it rose where the call failed
  pub failed : OnErr answer (Rose before now)
