-- What a name and a number are, as bytes.
use Rattle.std.specs.Prelude.{ℕ, ◌+◌, ◌-◌, ◌*◌, Bool, true, false, ◌&&◌, ◌||◌, ◌==◌, nat_lt, nat_le, List, [], ◌∷◌, length, Option, Some, None}
use Rattle.std.specs.List.{list_all}

abbrev pub is_digit : ℕ → Bool
is_digit b = nat_le 48 b && nat_le b 57

abbrev pub is_letter : ℕ → Bool
is_letter b = (nat_le 65 b && nat_le b 90) || (nat_le 97 b && nat_le b 122)

-- a letter, a digit or `_`
abbrev pub is_name_byte : ℕ → Bool
is_name_byte b = is_letter b || is_digit b || b == 95

-- a letter, then letters, digits and `_`
abbrev pub is_word_of_letters : List ℕ → Bool
is_word_of_letters [] = false
is_word_of_letters (b ∷ bs) = is_letter b && list_all is_name_byte bs

-- A name is such a word of at most 32 bytes.
abbrev pub is_name : List ℕ → Bool
is_name word = is_word_of_letters word && nat_le (length word) 32

-- digits alone, at least one, and the first is 0 only where it is alone
abbrev pub is_numeral : List ℕ → Bool
is_numeral [] = false
is_numeral (b ∷ []) = is_digit b
is_numeral (b ∷ c ∷ bs) = is_digit b && nat_lt 48 b && list_all is_digit (c ∷ bs)

-- the value of decimal digits that follow digits of value `n`
abbrev pub digits_on : ℕ → List ℕ → ℕ
digits_on n [] = n
digits_on n (b ∷ bs) = digits_on (10 * n + (b - 48)) bs

abbrev pub some_if : Bool → ℕ → Option ℕ
some_if true n = Some n
some_if false n = None

-- The number that a word spells, where it is below a bound; a leading zero spells none.
abbrev pub number_below : ℕ → List ℕ → Option ℕ
number_below bound word = some_if (is_numeral word && nat_lt (digits_on 0 word) bound) (digits_on 0 word)
