-- How a sort or a symbol may be named.
use Rattle.std.specs.Prelude.{ℕ, List, [], ◌∷◌, length, Bool, false, ◌&&◌, ◌||◌, ◌==◌, nat_le}
use Rattle.std.specs.List.{list_all}

-- an ASCII letter
abbrev pub is_letter : ℕ → Bool
is_letter byte = (nat_le 65 byte && nat_le byte 90) || (nat_le 97 byte && nat_le byte 122)

-- an ASCII letter, a digit or the low line
abbrev pub is_name_byte : ℕ → Bool
is_name_byte byte = is_letter byte || ((nat_le 48 byte && nat_le byte 57) || (byte == 95))

-- a letter, and then letters, digits and low lines
abbrev pub is_word : List ℕ → Bool
is_word [] = false
is_word (first ∷ others) = is_letter first && list_all is_name_byte others

-- a name: such a word of at most 32 bytes
abbrev pub is_name : List ℕ → Bool
is_name bytes = is_word bytes && nat_le (length bytes) 32
