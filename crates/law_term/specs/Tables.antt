-- Numbers in a table, by keys: how many variables of a sort were met, and the place of each variable.
use Rattle.std.specs.Prelude.{◌≡◌, ℕ, ◌+◌, ◌-◌, ◌*◌, ◌^◌, ◌<◌, ◌==◌, min, Bool, List, Option, None, Some, if◌then◌else◌}
use Rattle.std.specs.Map.{lookup}
use Rattle.law_sig.specs.Lists.{In}
use Rattle.law_sig.specs.declared.tree.SortId.{SortId}
use Rattle.law_term.specs.Variables.{Variable, indices, place_in}

abbrev pub Table : Type 0
Table = List (ℕ × ℕ)

abbrev pub same_key : ℕ → ℕ → Bool
same_key i j = i == j

abbrev pub number_by : Table → ℕ → Option ℕ
number_by table key = lookup (same_key key) table

-- the number, or another one where there is none
abbrev pub number_or : ℕ → Option ℕ → ℕ
number_or n None = n
number_or n (Some m) = m

-- the key of a variable
abbrev pub var_key : SortId → ℕ → ℕ
var_key s i = s.0 * 2 ^ 32 + i

-- how many were counted
abbrev pub count_in : Table → ℕ → ℕ
count_in counts key = number_or 0 (number_by counts key)

-- the place of a variable, and 2^32 - 1 where none is given
abbrev pub place_by : Table → SortId → ℕ → ℕ
place_by places s i = number_or (2 ^ 32 - 1) (number_by places (var_key s i))

-- so many were counted, and now one more, up to 2^32 - 1
pub record IsCounted (key count : ℕ) (old new : Table) : Type 0 where
  pub is : count ≡ count_in old key
  pub small : count < 2 ^ 32
  pub counts : (j : ℕ) → count_in new j ≡ (if same_key key j then min (count + 1) (2 ^ 32 - 1) else count_in old j)

-- a number was put, where none was
abbrev pub first_number : Option ℕ → Option ℕ → Option ℕ
first_number None o = o
first_number (Some n) o = Some n

abbrev pub IsNumberPut : ℕ → ℕ → Table → Table → Type 0
IsNumberPut key n old new = (j : ℕ) → number_by new j ≡ first_number (number_by old j) (if same_key key j then Some n else None)

-- each of these variables has its place
abbrev pub HavePlaces : List Variable → Table → Type 0
HavePlaces vs places = (s : SortId) (i : ℕ) → i < 2 ^ 32 → In i (indices s vs) → place_by places s i ≡ place_in vs s i
