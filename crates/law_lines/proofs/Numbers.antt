-- A word of digits and the decimal spelling of its value.
use Rattle.std.proofs.Common.{◌≡◌, ℕ, suc, zero, ◌+◌, ◌-◌, ◌*◌, ◌^◌, ◌<◌, ◌≤◌, Bool, true, false, List, [], ◌∷◌, length, get_or, Option, Some, None, refl, ap, sym, ◌∙◌, arith, rules, ◌&&◌, nat_lt, IfSome, drop}
use Rattle.std.specs.List.{list_all}
use Rattle.std.specs.Fmt.{decimal}
use Rattle.std.proofs.lemmas.Bool.Decides.{nat_tests}
use Rattle.std.proofs.Math.Seq.{drop-cons}
use Rattle.std.proofs.lemmas.Str.Parse.{IsNumeralModel, numerals_by_fold}
use Rattle.std.proofs.lemmas.Fmt.{digits_decimal, digits_value-decimal, decimal-digits_value, first_decimal, decimal_digit, decimal_nonempty}
use Rattle.law_lines.specs.Words.{is_digit, is_numeral, digits_on, some_if, number_below}

own : IsNumeralModel (λ ds. list_all is_digit ds ≡ true) (digits_on 0)
own = numerals_by_fold _ (search rules) digits_on (search rules)

pub digits_grow : (n : ℕ) (ds : List ℕ) → n ≤ digits_on n ds
digits_grow n [] = omega arith
digits_grow n (d ∷ ds) = omega (arith, digits_grow (10 * n + (d - 48)) ds)

numeral_parts : (w : List ℕ) → is_numeral w ≡ true → (list_all is_digit w ≡ true) × (0 < length w) × (get_or w 0 0 ≡ 48 → length w ≡ 1)
numeral_parts [] h = (cc, cc, cc)
numeral_parts (a ∷ []) h = (grind (arith, nat_tests), omega arith, λ _. refl)
numeral_parts (a ∷ b ∷ w) h = (grind (arith, nat_tests), omega arith, λ e. grind (arith, nat_tests))

parts_numeral : (w : List ℕ) → list_all is_digit w ≡ true → 0 < length w → (get_or w 0 0 ≡ 48 → length w ≡ 1) → is_numeral w ≡ true
parts_numeral [] d some first = absurd (omega arith)
parts_numeral (a ∷ []) d some first = grind (arith, nat_tests)
parts_numeral (a ∷ b ∷ w) d some first = grind (arith, nat_tests)

only_zero : (n : ℕ) → n < 2 ^ 64 → get_or (decimal n) 0 0 ≡ 48 → length (decimal n) ≡ 1
only_zero zero small e = ap length (decimal_digit 0 (omega arith))
only_zero (suc n) small e = absurd (omega (arith, first_decimal (suc n) (omega arith) small))

-- a numeral is the decimal spelling of its value
pub numeral_decimal : (w : List ℕ) → is_numeral w ≡ true → digits_on 0 w < 2 ^ 64 → decimal (digits_on 0 w) ≡ w
numeral_decimal w h small = let p = numeral_parts w h in decimal-digits_value own w p.0 p.1 p.2 small

-- and the decimal spelling of a number is a numeral of that value
pub decimal_numeral : (n : ℕ) → n < 2 ^ 64 → (is_numeral (decimal n) ≡ true) × (digits_on 0 (decimal n) ≡ n)
decimal_numeral n small = (parts_numeral (decimal n) (digits_decimal own n small) (decimal_nonempty n small) (only_zero n small), digits_value-decimal own n small)

-- what is read is what decimal writes, and what decimal writes is read
number_of : (bound n : ℕ) (w : List ℕ) → is_numeral w ≡ true → digits_on 0 w ≡ n → n < bound → number_below bound w ≡ Some n
number_of bound n w p v small =
    let q : nat_lt (digits_on 0 w) bound ≡ true = grind (arith, nat_tests) in
    ap (λ b. some_if (b && nat_lt (digits_on 0 w) bound) (digits_on 0 w)) p ∙ ap (λ b. some_if b (digits_on 0 w)) q ∙ ap Some v

pub number_of_decimal : (bound n : ℕ) → bound ≤ 2 ^ 64 → n < bound → number_below bound (decimal n) ≡ Some n
number_of_decimal bound n most small = let p = decimal_numeral n (omega arith) in number_of bound n (decimal n) p.0 p.1 small

found : (bound n : ℕ) (w : List ℕ) (a b : Bool) → is_numeral w ≡ a → nat_lt (digits_on 0 w) bound ≡ b → bound ≤ 2 ^ 64 → some_if (a && b) (digits_on 0 w) ≡ Some n → (n < bound) × (w ≡ decimal n)
found bound n w true true p q most e =
    let small : digits_on 0 w < bound = grind (arith, nat_tests) in
    let same : digits_on 0 w ≡ n = cc in
    (omega arith, sym (numeral_decimal w p (omega arith)) ∙ ap decimal same)
found bound n w true false p q most e = absurd cc
found bound n w false b p q most e = absurd cc

pub number_found : (bound n : ℕ) (w : List ℕ) → bound ≤ 2 ^ 64 → number_below bound w ≡ Some n → (n < bound) × (w ≡ decimal n)
number_found bound n w = found bound n w (is_numeral w) (nat_lt (digits_on 0 w) bound) refl refl

pub number_none : (bound : ℕ) (w : List ℕ) → bound ≤ 2 ^ 64 → number_below bound w ≡ None → (n : ℕ) → n < bound → w ≡ decimal n → ⊥
number_none bound w most e n small is = let f = number_of_decimal bound n most small in let g = ap (number_below bound) is in cc

pub number_is : (bound : ℕ) (w : List ℕ) (r : Option ℕ) → bound ≤ 2 ^ 64 → r ≡ number_below bound w → IfSome r (λ n. (n < bound) × (w ≡ decimal n))
number_is bound w (Some n) most e = number_found bound n w most (sym e)
number_is bound w None most e = tt

-- digits whose value has passed the bound, however they go on
pub passed : (bound n k : ℕ) (ds : List ℕ) → k < length ds → digits_on n (drop k ds) ≡ digits_on 0 ds → bound ≤ 10 * n + (get_or ds k 0 - 48)
    → None ≡ some_if (nat_lt (digits_on 0 ds) bound) (digits_on 0 ds)
passed bound n k ds within same most =
    let e : digits_on n (drop k ds) ≡ digits_on (10 * n + (get_or ds k 0 - 48)) (drop (suc k) ds) = ap (digits_on n) (drop-cons ds k 0 within) in
    let g = digits_grow (10 * n + (get_or ds k 0 - 48)) (drop (suc k) ds) in
    let large : bound ≤ digits_on 0 ds = omega arith in
    let q : nat_lt (digits_on 0 ds) bound ≡ false = grind (arith, nat_tests) in
    sym (ap (λ b. some_if b (digits_on 0 ds)) q)
