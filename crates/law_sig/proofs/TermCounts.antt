-- Sums that stop at a number, lists of something for each number below a bound, and the rows of counts.
use Rattle.std.proofs.Common.{◌≡◌, ℕ, zero, suc, ◌+◌, ◌-◌, ◌*◌, ◌^◌, ◌<◌, ◌≤◌, min, Bool, true, false, Option, Some, None, option_map, nat_lt, nat_eq, ltb-true, lt-ltb, eqb-true, eq-eqb, if◌then◌else◌, List, [], ◌∷◌, ◌++◌, length, map, take, drop, slice_index_or, arith, sym, refl, ap, ap₂, ◌∙◌, subst}
use Rattle.law_sig.specs.Lists.{total}
use Rattle.law_sig.specs.Signature.{args_of, result_of, weight_at}
use Rattle.law_sig.specs.Tests.{first_of}
use Rattle.law_sig.specs.Counts.{at_most, count_at, lists_at, stopped, applications_of, terms_at, next_row, rows_up_to}
use Rattle.law_sig.specs.declared.tree.SortId.{SortId}
use Rattle.law_sig.specs.declared.tree.SymId.{SymId}
use Rattle.law_sig.specs.declared.parts.Sym.{Sym}
use Rattle.law_sig.specs.declared.parts.SigParts.{SigParts}
use Rattle.law_sig.proofs.CountFacts.{stopped_product}

-- Something for each number below a bound

pub later : (n : ℕ) → n + 1 ≡ suc n
later n = omega arith

first_snoc : {A : Type 0} (n : ℕ) (f : ℕ → A) → first_of (suc n) f ≡ first_of n f ++ f n ∷ []
first_snoc zero f = refl
first_snoc (suc n) f = ap (λ l. f 0 ∷ l) (first_snoc n (λ i. f (suc i)))

pub first_more : {A : Type 0} (n : ℕ) (f : ℕ → A) → first_of (n + 1) f ≡ first_of n f ++ f n ∷ []
first_more n f = ap (λ k. first_of k f) (later n) ∙ first_snoc n f

pub first_ext : {A : Type 0} (n : ℕ) (f g : ℕ → A) → ((i : ℕ) → i < n → f i ≡ g i) → first_of n f ≡ first_of n g
first_ext zero f g same = refl
first_ext (suc n) f g same = ap₂ ◌∷◌ (same 0 (omega arith)) (first_ext n (λ i. f (suc i)) (λ i. g (suc i)) (λ i h. same (suc i) (omega arith)))

pub length_first : {A : Type 0} (n : ℕ) (f : ℕ → A) → length (first_of n f) ≡ n
length_first zero f = refl
length_first (suc n) f = ap suc (length_first n (λ i. f (suc i)))

pub first_at : {A : Type 0} (n : ℕ) (f : ℕ → A) (at : ℕ) (d : A) → at < n → slice_index_or (first_of n f) at d ≡ f at
first_at zero f at d h = absurd (omega arith)
first_at (suc n) f zero d h = refl
first_at (suc n) f (suc at) d h = first_at n (λ i. f (suc i)) at d (omega arith)

-- Sums

total_snoc : (xs : List ℕ) (n : ℕ) → total (xs ++ n ∷ []) ≡ total xs + n
total_snoc [] n = omega arith
total_snoc (x ∷ xs) n = let h : total (xs ++ n ∷ []) ≡ total xs + n = total_snoc xs n in omega arith

pub total_first : (n : ℕ) (f : ℕ → ℕ) → total (first_of (n + 1) f) ≡ total (first_of n f) + f n
total_first n f = ap total (first_more n f) ∙ total_snoc (first_of n f) (f n)

pub total_take : (xs : List ℕ) (at d : ℕ) → at < length xs → total (take (at + 1) xs) ≡ total (take at xs) + slice_index_or xs at d
total_take [] at d h = absurd (omega arith)
total_take (x ∷ xs) zero d h = omega arith
total_take (x ∷ xs) (suc n) d h =
    let next : suc n + 1 ≡ suc (n + 1) = omega arith in
    let rest : total (take (n + 1) xs) ≡ total (take n xs) + slice_index_or xs n d = total_take xs n d (omega arith) in
    ap (λ k. total (take k (x ∷ xs))) next ∙ more (total (take (n + 1) xs)) (total (take n xs)) (slice_index_or xs n d) rest
  where
    more : (a b c : ℕ) → a ≡ b + c → x + a ≡ x + b + c
    more a b c e = omega arith

pub take_whole : {A : Type 0} (xs : List A) (at : ℕ) → length xs ≤ at → take at xs ≡ xs
take_whole [] zero h = refl
take_whole [] (suc n) h = refl
take_whole (x ∷ xs) zero h = absurd (omega arith)
take_whole (x ∷ xs) (suc n) h = ap (λ l. x ∷ l) (take_whole xs n (omega arith))

pub map_at : {A : Type 0} (f : A → ℕ) (xs : List A) (at d : ℕ) (x : A) → at < length xs → x ≡ slice_index_or xs at x → slice_index_or (map f xs) at d ≡ f x
map_at f [] at d x h is = absurd (omega arith)
map_at f (y ∷ xs) zero d x h is = ap f (sym is)
map_at f (y ∷ xs) (suc n) d x h is = map_at f xs n d x (omega arith) is

pub map_length : {A : Type 0} (f : A → ℕ) (xs : List A) → length (map f xs) ≡ length xs
map_length f [] = refl
map_length f (x ∷ xs) = ap suc (map_length f xs)

-- a sum goes on where it stops at each step
pub stopped_sum : (m a b sum part next : ℕ) → sum ≡ min a m → part ≡ min b m → next ≡ min (sum + part) m → next ≡ min (a + b) m
stopped_sum m a b sum part next is_sum is_part is_next = omega arith

-- a product whose second part has stopped already
pub stopped_factor : (m a b : ℕ) → min (a * min b m) m ≡ min (a * b) m
stopped_factor m a b = ap (λ k. min k m) (turned a (min b m)) ∙ stopped_product m b a ∙ ap (λ k. min k m) (turned b a)
  where
    turned : (x y : ℕ) → x * y ≡ y * x
    turned x y = omega arith

-- sums of parts that are equal where they stop
pub stopped_totals : (m n : ℕ) (f g : ℕ → ℕ) → ((i : ℕ) → i < n → min (f i) m ≡ min (g i) m) → min (total (first_of n f)) m ≡ min (total (first_of n g)) m
stopped_totals m zero f g same = refl
stopped_totals m (suc n) f g same =
    both m (f 0) (g 0) (total (first_of n (λ i. f (suc i)))) (total (first_of n (λ i. g (suc i)))) (same 0 (omega arith))
    (stopped_totals m n (λ i. f (suc i)) (λ i. g (suc i)) (λ i h. same (suc i) (omega arith)))
  where
    both : (m a b c d : ℕ) → min a m ≡ min b m → min c m ≡ min d m → min (a + c) m ≡ min (b + d) m
    both m a b c d h k = omega arith

-- a row that has stopped nowhere, and one that has
pub exact_row : (m n : ℕ) (f : ℕ → ℕ) → total (first_of n (λ i. min (f i) m)) < m → first_of n (λ i. min (f i) m) ≡ first_of n f
exact_row m zero f h = refl
exact_row m (suc n) f h = ap₂ ◌∷◌ (first (min (f 0) m) (total (first_of n (λ i. min (f (suc i)) m))) refl h) (exact_row m n (λ i. f (suc i)) (rest (min (f 0) m) (total (first_of n (λ i. min (f (suc i)) m))) h))
  where
    first : (a b : ℕ) → a ≡ min (f 0) m → a + b < m → a ≡ f 0
    first a b e k = omega arith

    rest : (a b : ℕ) → a + b < m → b < m
    rest a b k = omega arith

pub row_below : (m n : ℕ) (f : ℕ → ℕ) → total (first_of n (λ i. min (f i) m)) ≤ total (first_of n f)
row_below m zero f = omega arith
row_below m (suc n) f = let h : total (first_of n (λ i. min (f (suc i)) m)) ≤ total (first_of n (λ i. f (suc i))) = row_below m n (λ i. f (suc i)) in omega arith

-- The rows

-- one item more of a row
pub row_more : {A : Type 0} (n : ℕ) (f : ℕ → A) (row more : List A) (x : A) → row ≡ first_of n f → x ≡ f n → more ≡ row ++ x ∷ [] → more ≡ first_of (n + 1) f
row_more n f row more x is_row is_x is_more = is_more ∙ ap₂ (λ l y. l ++ y ∷ []) is_row is_x ∙ sym (first_more n f)

-- one number more of a sum
pub sum_more : (m start sum part next : ℕ) (xs : List ℕ) (at : ℕ) → at < length xs → sum ≡ min (start + total (take at xs)) m → part ≡ min (slice_index_or xs at 0) m
    → next ≡ min (sum + part) m → next ≡ min (start + total (take (at + 1) xs)) m
sum_more m start sum part next xs at within is_sum is_part is_next =
    stopped_sum m (start + total (take at xs)) (slice_index_or xs at 0) sum part next is_sum is_part is_next
    ∙ ap (λ k. min k m) (regrouped start (total (take at xs)) (slice_index_or xs at 0) (total (take (at + 1) xs)) (total_take xs at 0 within))
  where
    regrouped : (a b c d : ℕ) → d ≡ b + c → a + b + c ≡ a + d
    regrouped a b c d e = omega arith

pub first_sum_more : (m n sum part next : ℕ) (f : ℕ → ℕ) → sum ≡ min (total (first_of n f)) m → part ≡ min (f n) m → next ≡ min (sum + part) m → next ≡ min (total (first_of (n + 1) f)) m
first_sum_more m n sum part next f is_sum is_part is_next =
    stopped_sum m (total (first_of n f)) (f n) sum part next is_sum is_part is_next ∙ ap (λ k. min k m) (sym (total_first n f))

-- lists of terms with one sort more in front
abbrev pub with_sort : List (List ℕ) → SortId → (ℕ → ℕ) → ℕ → ℕ
with_sort rows sort rest weight = total (first_of (suc weight) (λ first. count_at rows first sort * rest (weight - first)))

abbrev pub read_from : List ℕ → ℕ → ℕ
read_from rest at = slice_index_or rest at 0

pub lists_more : (rows : List (List ℕ)) (sort : SortId) (sorts : List SortId) (weight : ℕ) (lists more : List ℕ) → lists ≡ first_of (suc weight) (λ w. stopped (lists_at rows sorts w))
    → more ≡ first_of (length lists) (λ w. stopped (with_sort rows sort (read_from lists) w)) → more ≡ first_of (suc weight) (λ w. stopped (lists_at rows (sort ∷ sorts) w))
lists_more rows sort sorts weight lists more is_lists is_more =
    is_more ∙ ap (λ n. first_of n (λ w. stopped (with_sort rows sort (read_from lists) w))) (ap length is_lists ∙ length_first (suc weight) (λ w. stopped (lists_at rows sorts w)))
    ∙ first_ext (suc weight) _ _ (λ w h. stopped_totals (2 ^ 128 - 1) (suc w) (λ first. count_at rows first sort * read_from lists (w - first))
    (λ first. count_at rows first sort * lists_at rows sorts (w - first))
    (λ first k. ap (λ r. stopped (count_at rows first sort * r))
    (ap (λ l. read_from l (w - first)) is_lists ∙ first_at (suc weight) (λ v. stopped (lists_at rows sorts v)) (w - first) 0 (omega arith))
    ∙ stopped_factor (2 ^ 128 - 1) (count_at rows first sort) (lists_at rows sorts (w - first))))

pub no_lists : (rows : List (List ℕ)) (n : ℕ) → first_of n (λ w. lists_at [] [] w) ≡ first_of n (λ w. stopped (lists_at rows [] w))
no_lists rows n = first_ext n _ _ (λ w h. by w)
  where
    by : (w : ℕ) → lists_at [] [] w ≡ stopped (lists_at rows [] w)
    by zero = refl
    by (suc w) = refl

-- the sorts from a place on, counted from the end
pub one_before : (sorts : List SortId) (done : ℕ) (d : SortId) → done < length sorts
    → drop (length sorts - (done + 1)) sorts ≡ slice_index_or sorts (length sorts - 1 - done) d ∷ drop (length sorts - done) sorts
one_before sorts done d within =
    let at : length sorts - (done + 1) ≡ length sorts - 1 - done = omega arith in
    let next : length sorts - 1 - done + 1 ≡ length sorts - done = omega arith in
    let below : length sorts - 1 - done < length sorts = omega arith in
    ap (λ k. drop k sorts) at ∙ at_next sorts (length sorts - 1 - done) d below ∙ ap (λ k. slice_index_or sorts (length sorts - 1 - done) d ∷ drop k sorts) next
  where
    at_next : {A : Type 0} (xs : List A) (at : ℕ) (d : A) → at < length xs → drop at xs ≡ slice_index_or xs at d ∷ drop (at + 1) xs
    at_next [] at d h = absurd (omega arith)
    at_next (x ∷ xs) zero d h = refl
    at_next (x ∷ xs) (suc n) d h = at_next xs n d (omega arith) ∙ ap (λ k. slice_index_or xs n d ∷ drop k (x ∷ xs)) (plus n)
      where
        plus : (n : ℕ) → suc (n + 1) ≡ suc n + 1
        plus n = omega arith

pub drop_end : {A : Type 0} (xs : List A) (at : ℕ) → length xs ≤ at → drop at xs ≡ []
drop_end [] zero h = refl
drop_end [] (suc n) h = refl
drop_end (x ∷ xs) zero h = absurd (omega arith)
drop_end (x ∷ xs) (suc n) h = drop_end xs n (omega arith)

-- Applications

pub other_sort : (parts : SigParts) (rows : List (List ℕ)) (weight : ℕ) (sort r : SortId) (f : SymId) (o : Option Sym) → option_map result_of o ≡ Some r → (r.0 ≡ sort.0 → ⊥)
    → 0 ≡ stopped (applications_of parts rows weight sort f o)
other_sort parts rows weight sort r f None e other = cc
other_sort parts rows weight sort r f (Some symbol) e other = by (nat_eq (result_of symbol).0 sort.0) refl
  where
    by : (b : Bool) → nat_eq (result_of symbol).0 sort.0 ≡ b
        → 0 ≡ stopped (if b then (if nat_lt weight (weight_at parts f) then 0 else lists_at rows (args_of symbol) (weight - weight_at parts f)) else 0)
    by true k = absurd (other (let is : result_of symbol ≡ r = cc in ap (λ (s : SortId). s.0) (sym is) ∙ eqb-true (result_of symbol).0 sort.0 k))
    by false k = refl

pub too_heavy : (parts : SigParts) (rows : List (List ℕ)) (weight : ℕ) (sort : SortId) (f : SymId) (o : Option Sym) → weight < weight_at parts f
    → 0 ≡ stopped (applications_of parts rows weight sort f o)
too_heavy parts rows weight sort f None less = refl
too_heavy parts rows weight sort f (Some symbol) less = by (nat_eq (result_of symbol).0 sort.0)
  where
    by : (b : Bool) → 0 ≡ stopped (if b then (if nat_lt weight (weight_at parts f) then 0 else lists_at rows (args_of symbol) (weight - weight_at parts f)) else 0)
    by true = ap (λ (c : Bool). stopped (if c then 0 else lists_at rows (args_of symbol) (weight - weight_at parts f))) (sym (lt-ltb weight (weight_at parts f) less))
    by false = refl

pub applied : (parts : SigParts) (rows : List (List ℕ)) (weight own left number : ℕ) (sort r : SortId) (f : SymId) (o : Option Sym) (sorts : List SortId) (lists : List ℕ)
    → option_map result_of o ≡ Some r → r.0 ≡ sort.0 → option_map args_of o ≡ Some sorts → own ≡ weight_at parts f → own ≤ weight → left ≡ weight - own
    → lists ≡ first_of (suc left) (λ w. stopped (lists_at rows sorts w)) → number ≡ slice_index_or lists left 0
    → number ≡ stopped (applications_of parts rows weight sort f o)
applied parts rows weight own left number sort r f None sorts lists e same args is_own enough is_left is_lists is_number = cc
applied parts rows weight own left number sort r f (Some symbol) sorts lists e same args is_own enough is_left is_lists is_number =
    let is : result_of symbol ≡ r = cc in
    let is_args : sorts ≡ args_of symbol = cc in
    is_number ∙ ap (λ l. slice_index_or l left 0) is_lists ∙ first_at (suc left) (λ w. stopped (lists_at rows sorts w)) left 0 (omega arith)
    ∙ ap₂ (λ ss k. stopped (lists_at rows ss k)) is_args (is_left ∙ ap (λ k. weight - k) is_own)
    ∙ by (nat_eq (result_of symbol).0 sort.0) (eq-eqb (result_of symbol).0 sort.0 (ap (λ (s : SortId). s.0) is ∙ same)) (nat_lt weight (weight_at parts f)) refl
  where
    by : (b : Bool) → b ≡ true → (c : Bool) → nat_lt weight (weight_at parts f) ≡ c → stopped (lists_at rows (args_of symbol) (weight - weight_at parts f))
        ≡ stopped (if b then (if c then 0 else lists_at rows (args_of symbol) (weight - weight_at parts f)) else 0)
    by true k true l = let h = ltb-true weight (weight_at parts f) l in absurd (omega arith)
    by true k false l = refl
    by false k c l = cc

-- All rows

joined_more : (xss : List (List ℕ)) (xs : List ℕ) → total (map total (xss ++ xs ∷ [])) ≡ total (map total xss) + total xs
joined_more [] xs = omega arith
joined_more (ys ∷ xss) xs = let h : total (map total (xss ++ xs ∷ [])) ≡ total (map total xss) + total xs = joined_more xss xs in omega arith

pub count_next : (parts : SigParts) (n : ℕ) → total (map total (rows_up_to parts (n + 1))) ≡ total (map total (rows_up_to parts n)) + total (next_row parts (rows_up_to parts n))
count_next parts n = ap (λ k. total (map total (rows_up_to parts k))) (later n) ∙ joined_more (rows_up_to parts n) (next_row parts (rows_up_to parts n))

pub count_rises : (parts : SigParts) (n more : ℕ) → total (map total (rows_up_to parts n)) ≤ total (map total (rows_up_to parts (n + more)))
count_rises parts n zero = subst (λ k. total (map total (rows_up_to parts n)) ≤ total (map total (rows_up_to parts k))) (plain n) (omega arith)
  where
    plain : (n : ℕ) → n ≡ n + 0
    plain n = omega arith
count_rises parts n (suc more) =
    let h = count_rises parts n more in
    let e = count_next parts (n + more) in
    subst (λ k. total (map total (rows_up_to parts n)) ≤ total (map total (rows_up_to parts k))) (plus n more) (omega arith)
  where
    plus : (n m : ℕ) → n + m + 1 ≡ n + suc m
    plus n m = omega arith

none_counted : (n : ℕ) → total (first_of n (λ sort. 0)) ≡ 0
none_counted zero = refl
none_counted (suc n) = let h : total (first_of n (λ sort. 0)) ≡ 0 = none_counted n in omega arith

pub count_first : (parts : SigParts) → 0 ≡ total (map total (rows_up_to parts 0))
count_first parts = let h = none_counted (length parts.sort_names) in omega arith

-- a row that is taken whole, and one that passes a limit
pub record IsWhole (parts : SigParts) (n next : ℕ) (row : List ℕ) : Type 0 where
  pub exact : row ≡ next_row parts (rows_up_to parts n)
  pub count : next ≡ total (map total (rows_up_to parts (n + 1)))

pub taken_whole : (parts : SigParts) (n limit count next : ℕ) (rows : List (List ℕ)) (row : List ℕ) → limit < 2 ^ 64 → rows ≡ rows_up_to parts n → count ≡ total (map total (rows_up_to parts n))
    → row ≡ first_of (length parts.sort_names) (λ sort. stopped (terms_at parts rows (length rows) (record { 0 = sort }))) → next ≡ stopped (count + total row) → next ≤ limit
    → IsWhole parts n next row
taken_whole parts n limit count next rows row low is_rows is_count is_row is_next within =
    let terms = λ (sort : ℕ). terms_at parts rows (length rows) (record { 0 = sort }) in
    let small : total (first_of (length parts.sort_names) (λ sort. min (terms sort) (2 ^ 128 - 1))) < 2 ^ 128 - 1 = small_sum limit count (total row) next (ap total is_row) low is_next within in
    let exact : row ≡ next_row parts (rows_up_to parts n) = is_row ∙ exact_row (2 ^ 128 - 1) (length parts.sort_names) terms small ∙ ap (next_row parts) is_rows in
    record { exact = exact; count = whole limit count (total row) next low is_next within ∙ ap₂ ◌+◌ is_count (ap total exact) ∙ sym (count_next parts n) }
  where
    small_sum : (limit count sum next : ℕ) {other : ℕ} → sum ≡ other → limit < 2 ^ 64 → next ≡ stopped (count + sum) → next ≤ limit → other < 2 ^ 128 - 1
    small_sum limit count sum next same low is within = omega arith

    whole : (limit count sum next : ℕ) → limit < 2 ^ 64 → next ≡ stopped (count + sum) → next ≤ limit → next ≡ count + sum
    whole limit count sum next low is within = omega arith

pub passed : (parts : SigParts) (n size limit count next : ℕ) (rows : List (List ℕ)) (row : List ℕ) → n < size → rows ≡ rows_up_to parts n → count ≡ total (map total (rows_up_to parts n))
    → row ≡ first_of (length parts.sort_names) (λ sort. stopped (terms_at parts rows (length rows) (record { 0 = sort }))) → next ≡ stopped (count + total row) → limit < next
    → limit < total (map total (rows_up_to parts size))
passed parts n size limit count next rows row below is_rows is_count is_row is_next past =
    let low : total row ≤ total (next_row parts rows) = subst (λ l. total l ≤ total (next_row parts rows)) (sym is_row)
    (row_below (2 ^ 128 - 1) (length parts.sort_names) (λ (sort : ℕ). terms_at parts rows (length rows) (record { 0 = sort }))) in
    let same : total (next_row parts rows) ≡ total (next_row parts (rows_up_to parts n)) = ap (λ r. total (next_row parts r)) is_rows in
    let next_count = count_next parts n in
    let rises : total (map total (rows_up_to parts (n + 1))) ≤ total (map total (rows_up_to parts size)) =
    subst (λ k. total (map total (rows_up_to parts (n + 1))) ≤ total (map total (rows_up_to parts k))) (fills n size below) (count_rises parts (n + 1) (size - (n + 1))) in
    omega arith
  where
    fills : (n size : ℕ) → n < size → n + 1 + (size - (n + 1)) ≡ size
    fills n size h = omega arith

-- For the calls

pub sum_more_exact : (m start sum next : ℕ) (xs : List ℕ) (at : ℕ) → at < length xs → sum ≡ min (start + total (take at xs)) m
    → next ≡ min (sum + slice_index_or xs at 0) m → next ≡ min (start + total (take (at + 1) xs)) m
sum_more_exact m start sum next xs at within is_sum is_next =
    exact (start + total (take at xs)) (slice_index_or xs at 0) is_sum is_next
    ∙ ap (λ k. min k m) (regrouped start (total (take at xs)) (slice_index_or xs at 0) (total (take (at + 1) xs)) (total_take xs at 0 within))
  where
    exact : (a b : ℕ) → sum ≡ min a m → next ≡ min (sum + b) m → next ≡ min (a + b) m
    exact a b e k = omega arith

    regrouped : (a b c d : ℕ) → d ≡ b + c → a + b + c ≡ a + d
    regrouped a b c d e = omega arith

pub same_at : {A : Type 0} (xs : List A) (at : ℕ) (d e : A) → at < length xs → slice_index_or xs at d ≡ slice_index_or xs at e
same_at [] at d e h = absurd (omega arith)
same_at (x ∷ xs) zero d e h = refl
same_at (x ∷ xs) (suc n) d e h = same_at xs n d e (omega arith)

pub none_past : (limit n : ℕ) → limit < n → None ≡ at_most limit n
none_past limit n past = ap (λ (b : Bool). if b then None else Some n) (sym (lt-ltb limit n past))

pub some_within : (limit n m : ℕ) → m ≡ n → m ≤ limit → Some m ≡ at_most limit n
some_within limit n m is within = ap Some is ∙ by (nat_lt limit n) refl
  where
    by : (b : Bool) → nat_lt limit n ≡ b → Some n ≡ (if b then None else Some n)
    by true e = let h = ltb-true limit n e in absurd (omega arith)
    by false e = refl
