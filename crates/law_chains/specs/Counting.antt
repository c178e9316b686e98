-- Lists that count up.
use Rattle.std.specs.Prelude.{ℕ, ◌+◌, ◌==◌, List, [], ◌∷◌, Option, Some, None, if◌then◌else◌}

-- the number after the last one, where the numbers count up from this one, and none elsewhere
abbrev pub counted_from : ℕ → List ℕ → Option ℕ
counted_from next [] = Some next
counted_from next (n ∷ ns) = if n == next then counted_from (next + 1) ns else None
