-- What follows from the words of counts of faults.
use Rattle.std.proofs.Common.{ℕ, ◌<◌, ◌≤◌, arith}
use Rattle.law_io.specs.Counts.{Rose, last_count}

-- a count that rose has risen also where it goes on
pub Rose-later : (a b c : ℕ) → Rose a b → b ≤ c → Rose a c
Rose-later a b c h k = grind arith

-- a count that rose from a later one rose from the first
pub later-Rose : (a b c : ℕ) → a ≤ b → Rose b c → Rose a c
later-Rose a b c h k = grind arith

-- a count that is greater rose
pub Rose-grew : (a b : ℕ) → a < b → Rose a b
Rose-grew a b h = grind arith

-- below its last value a count that rose is greater
pub grew-Rose : (a b : ℕ) → a < last_count → Rose a b → a < b
grew-Rose a b h k = grind arith
