-- Names, and the number of a name among them.
use Rattle.std.specs.Prelude.{ℕ, List, Bool, false, nat_lt, bytes_eq, Option, Some, None}
use Rattle.std.specs.List.{position_from}

abbrev pub same_name : List ℕ → List ℕ → Bool
same_name = bytes_eq

-- the number of a name among names: the first place where it stands
abbrev pub number_of : List (List ℕ) → List ℕ → Option ℕ
number_of names name = position_from (same_name name) 0 names

-- whether a number is below a place
abbrev pub is_below : ℕ → Option ℕ → Bool
is_below place None = false
is_below place (Some number) = nat_lt number place

-- whether a name stands among these before a place
abbrev pub stands_before : List (List ℕ) → ℕ → List ℕ → Bool
stands_before names place name = is_below place (number_of names name)

-- whether there is a name, and it is this one
abbrev pub is_named : List ℕ → Option (List ℕ) → Bool
is_named name None = false
is_named name (Some other) = same_name name other
