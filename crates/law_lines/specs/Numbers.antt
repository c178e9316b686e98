-- Words that are numbers, and words that have a number which isn't one.
use Rattle.std.specs.Prelude.{ℕ, ◌^◌, Bool, true, false, ◌&&◌, not, ◌==◌, List, [], ◌∷◌, Option, Some, None, is_some}
use Rattle.law_lines.specs.Words.{number_below}

abbrev pub is_number : List ℕ → Bool
is_number bytes = is_some (number_below (2 ^ 63) bytes)

abbrev pub is_index : List ℕ → Bool
is_index bytes = is_some (number_below (2 ^ 32) bytes)

-- what stands before and behind the first dot
abbrev pub cut_by : Bool → ℕ → List ℕ → Option (List ℕ × List ℕ) → Option (List ℕ × List ℕ)
cut_by true b bs parts = Some ([], bs)
cut_by false b bs None = None
cut_by false b bs (Some parts) = Some (b ∷ parts.0, parts.1)

abbrev pub cut : List ℕ → Option (List ℕ × List ℕ)
cut [] = None
cut (b ∷ bs) = cut_by (b == 46) b bs (cut bs)

-- What stands behind the first dot, or behind this sign at the start, isn't an index.
abbrev pub is_bad_index : Option (List ℕ × List ℕ) → Bool
is_bad_index None = false
is_bad_index (Some parts) = not (is_index parts.1)

abbrev pub is_bad_behind : ℕ → List ℕ → Bool
is_bad_behind sign [] = false
is_bad_behind sign (b ∷ bs) = b == sign && not (is_index bs)
