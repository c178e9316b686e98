-- What is asked of a line before its pieces are looked at.
use Rattle.std.specs.Prelude.{ℕ, Bool, true, false, ◌&&◌, not, nat_le, ◌==◌, List, [], ◌∷◌, Option, Some, None}
use Rattle.law_lines.specs.declared.stage.Key.{Key}
use Rattle.law_lines.specs.declared.stage.Key.TheVariants.{End}
use Rattle.law_lines.specs.Stages.{same_key}

-- A line has the bytes from the space to `~`.
abbrev pub is_printed : ℕ → Bool
is_printed b = nat_le 32 b && nat_le b 126

-- No space leads, trails or is doubled; `behind` is true behind a space and at the start.
abbrev pub spaces_fit : Bool → List ℕ → Bool
spaces_fit behind [] = not behind
spaces_fit behind (b ∷ bs) = not (behind && b == 32) && spaces_fit (b == 32) bs

abbrev pub is_spaced : List ℕ → Bool
is_spaced [] = true
is_spaced (b ∷ bs) = spaces_fit true (b ∷ bs)

abbrev pub is_closed_by : Option Key → Bool
is_closed_by None = false
is_closed_by (Some key) = same_key key End
