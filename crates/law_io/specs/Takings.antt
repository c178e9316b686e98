-- What a sink has taken, as far as it tells, and how a push changes that.
use Rattle.std.specs.Prelude.{◌≡◌, ℕ, ◌≤◌, List, ◌++◌, length, take, ⊤, Option, Some, None, Result, MatchResult}

-- what a sink tells of the bytes that it took
pub data Taken : Type 0 where
  -- it took these bytes, in this order
  Told : List ℕ → Taken
  -- it doesn't say what it took, as a terminal
  Silent : Taken
  -- it has told and tells no more, since it took bytes that it didn't keep
  Spilled : Taken

-- a writer that may know its bytes, as a sink
abbrev pub told_of : Option (List ℕ) → Taken
told_of None = Silent
told_of (Some xs) = Told xs

-- told bytes grew by bs at their end. They may end to be told, for ever, and nothing else may happen to them.
abbrev pub Grows : Taken → Taken → List ℕ → Type 0
Grows (Told xs) (Told ys) bs = ys ≡ xs ++ bs
Grows (Told xs) Silent bs = ⊥
Grows (Told xs) Spilled bs = ⊤
Grows Silent new bs = ⊤
Grows Spilled (Told ys) bs = ⊥
Grows Spilled Silent bs = ⊥
Grows Spilled Spilled bs = ⊤

-- told bytes are as before, and go on to be told
abbrev pub Stays : Taken → Taken → Type 0
Stays (Told xs) (Told ys) = ys ≡ xs
Stays (Told xs) Silent = ⊥
Stays (Told xs) Spilled = ⊥
Stays Silent new = ⊤
Stays Spilled (Told ys) = ⊥
Stays Spilled Silent = ⊥
Stays Spilled Spilled = ⊤

-- a push took the first n bytes of its piece at `Ok(n)`, and nothing where it failed
abbrev pub PushGrows : {E : Type 0} → Taken → Taken → Result ℕ E → List ℕ → Type 0
PushGrows old new answer piece = MatchResult answer (λ n. Grows old new (take n piece)) (λ _. Stays old new)

-- told bytes grew by the first bytes of bs, by none or all of them perhaps
pub record GrewByPrefix (old new : Taken) (bs : List ℕ) : Type 0 where
  -- how many of them
  pub count : ℕ
  pub within : count ≤ length bs
  pub grew : Grows old new (take count bs)
