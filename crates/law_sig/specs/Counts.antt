-- Numbers with a limit, and how many terms the universe has.
use Rattle.std.specs.Prelude.{ℕ, zero, suc, ◌+◌, ◌-◌, ◌*◌, ◌^◌, min, List, [], ◌∷◌, ◌++◌, map, length, if◌then◌else◌, nat_lt, nat_eq, Option, Some, None, slice_index_or}
use Rattle.law_sig.specs.Lists.{total}
use Rattle.law_sig.specs.Signature.{symbol_at, args_of, result_of, vars_at, weight_at, has_sort}
use Rattle.law_sig.specs.Tests.{first_of}
use Rattle.law_sig.specs.declared.tree.SortId.{SortId}
use Rattle.law_sig.specs.declared.tree.SymId.{SymId}
use Rattle.law_sig.specs.declared.parts.Sym.{Sym}
use Rattle.law_sig.specs.declared.parts.SigParts.{SigParts}

-- the number where it isn't past the limit
abbrev pub at_most : ℕ → ℕ → Option ℕ
at_most limit n = if nat_lt limit n then None else Some n

-- How many terms there are, by weight and then by sort: `rows` has what is known of the weights from 0 on

-- how many terms of a sort have this weight
abbrev pub count_at : List (List ℕ) → ℕ → SortId → ℕ
count_at rows weight sort = slice_index_or (slice_index_or rows weight []) sort.0 0

-- how many lists of terms of these sorts in turn have this weight together: the first term may have any part of it
abbrev pub lists_at : List (List ℕ) → List SortId → ℕ → ℕ
lists_at rows [] zero = 1
lists_at rows [] (suc weight) = 0
lists_at rows (sort ∷ sorts) weight = total (first_of (suc weight) (λ first. count_at rows first sort * lists_at rows sorts (weight - first)))

-- the greatest number that sums and products stop at
abbrev pub stopped : ℕ → ℕ
stopped n = min n (2 ^ 128 - 1)

-- how many terms of a sort with this symbol at their head have this weight
abbrev pub applications_of : SigParts → List (List ℕ) → ℕ → SortId → SymId → Option Sym → ℕ
applications_of parts rows weight sort f None = 0
applications_of parts rows weight sort f (Some symbol) =
    if has_sort (Some (result_of symbol)) sort
    then (if nat_lt weight (weight_at parts f) then 0 else lists_at rows (args_of symbol) (weight - weight_at parts f))
    else 0

-- how many terms of a sort have this weight, where the rows have all lower weights: variables weigh 1
abbrev pub terms_at : SigParts → List (List ℕ) → ℕ → SortId → ℕ
terms_at parts rows weight sort = (if nat_eq weight 1 then vars_at parts sort else 0)
    + total (map (λ (f : SymId). applications_of parts rows weight sort f (symbol_at parts f)) parts.settings.explored)

-- one weight more
abbrev pub next_row : SigParts → List (List ℕ) → List ℕ
next_row parts rows = first_of (length parts.sort_names) (λ sort. terms_at parts rows (length rows) (record { 0 = sort }))

-- all weights up to this one: nothing weighs 0
abbrev pub rows_up_to : SigParts → ℕ → List (List ℕ)
rows_up_to parts zero = first_of (length parts.sort_names) (λ sort. 0) ∷ []
rows_up_to parts (suc weight) = rows_up_to parts weight ++ next_row parts (rows_up_to parts weight) ∷ []

-- how many terms the universe has, of all sorts together
abbrev pub term_count : SigParts → ℕ
term_count parts = total (map total (rows_up_to parts parts.settings.size))
