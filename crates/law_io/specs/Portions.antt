-- How much a stream in memory moves in one call.
use Rattle.std.specs.Prelude.{ℕ, ◌+◌, ◌-◌, ◌<◌, ◌≤◌, length, min, List, zero, suc}
use Rattle.law_io.specs.Counts.{last_count}
use Rattle.law_io.specs.Takings.{Taken}
use Rattle.law_io.specs.Takings.Taken.{Told, Spilled}

-- the bytes of one call: as many as the step, the caller's piece and what is there allow
abbrev pub portion : ℕ → ℕ → ℕ → ℕ
portion step piece there = min step (min piece there)

-- a counter that grows by n and stops at its last value
abbrev pub count_on : ℕ → ℕ → ℕ
count_on count n = min (count + n) last_count

-- the kept bytes are all that was taken, until one was only counted
abbrev pub kept_or_spilled : List ℕ → ℕ → Taken
kept_or_spilled kept zero = Told kept
kept_or_spilled kept (suc more) = Spilled

-- the places that a sink has left for bytes to keep: none once a byte was only counted
abbrev pub places : ℕ → ℕ → ℕ → ℕ
places zero capacity kept = capacity - kept
places (suc more) capacity kept = 0

-- a sink with room for so many bytes, that holds so many, has no place for any byte of the piece
abbrev pub IsFull : ℕ → ℕ → List ℕ → Type 0
IsFull room held piece = (room ≤ held) × (0 < length piece)
