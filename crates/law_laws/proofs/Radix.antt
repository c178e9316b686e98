-- Numbers written with digits below given radices, the first digit being the least; and lists with something for each variable.
use Rattle.std.proofs.Common.{◌≡◌, ℕ, zero, suc, ◌+◌, ◌*◌, ◌/◌, ◌%◌, ◌<◌, ◌≤◌, List, [], ◌∷◌, ◌++◌, take, slice_index_or, sym, refl, ap, ◌∙◌, arith, zero-add, add_assoc}
use Rattle.std.proofs.Math.Nat.{div-div-eq-div-mul, add-mul-div_left, div-eq_of_lt, div-one, add-mul-mod_self_left, mod-eq_of_lt, mod-one, mul-le-mul_left}
use Rattle.law_sig.specs.Lists.{total, product}
use Rattle.law_sig.specs.Tests.{first_of, per_variable, digit_in}

-- as many digits as radices, each below its radix
abbrev pub Fit : List ℕ → List ℕ → Type 0
Fit [] [] = Unit {0}
Fit [] (w ∷ ws) = ⊥
Fit (d ∷ ds) [] = ⊥
Fit (d ∷ ds) (w ∷ ws) = (d < w) × Fit ds ws

-- the number with these digits
abbrev pub number : List ℕ → List ℕ → ℕ
number [] ws = 0
number (d ∷ ds) [] = 0
number (d ∷ ds) (w ∷ ws) = d + w * number ds ws

one_more_digit : (d w n p : ℕ) → d < w → n < p → d + w * n < w * p
one_more_digit d w n p less low =
    let h : w * suc n ≤ w * p = mul-le-mul_left w low in
    omega arith

pub number_below : (ds ws : List ℕ) → Fit ds ws → number ds ws < product ws
number_below [] [] fit = omega arith
number_below [] (w ∷ ws) fit = absurd fit
number_below (d ∷ ds) [] fit = absurd fit
number_below (d ∷ ds) (w ∷ ws) fit = one_more_digit d w (number ds ws) (product ws) fit.0 (number_below ds ws fit.1)

-- its digits are those
pub digit_of : (ds ws : List ℕ) → Fit ds ws → (k : ℕ) → digit_in ws k (number ds ws) ≡ slice_index_or ds k 0
digit_of [] [] fit k = mod-one (0 / product (take k []))
digit_of [] (w ∷ ws) fit k = absurd fit
digit_of (d ∷ ds) [] fit k = absurd fit
digit_of (d ∷ ds) (w ∷ ws) fit zero = ap (λ x. x % w) (div-one (d + w * number ds ws)) ∙ add-mul-mod_self_left d w (number ds ws) ∙ mod-eq_of_lt fit.0
digit_of (d ∷ ds) (w ∷ ws) fit (suc k) =
    let positive : 0 < w = omega arith in
    let rest : (d + w * number ds ws) / w ≡ number ds ws = add-mul-div_left d (number ds ws) positive ∙ ap (λ x. x + number ds ws) (div-eq_of_lt fit.0) ∙ zero-add (number ds ws) in
    ap (λ x. x % slice_index_or ws k 1) (sym (div-div-eq-div-mul (d + w * number ds ws) w (product (take k ws))) ∙ ap (λ x. x / product (take k ws)) rest)
    ∙ digit_of ds ws fit.1 k

-- what stands at a place of a first part, and behind it
in_front : (n : ℕ) (g : ℕ → ℕ) (rest : List ℕ) (k d : ℕ) → k < n → slice_index_or (first_of n g ++ rest) k d ≡ g k
in_front zero g rest k d h = absurd (omega arith)
in_front (suc n) g rest zero d h = refl
in_front (suc n) g rest (suc k) d h = in_front n (λ i. g (suc i)) rest k d (omega arith)

one_later : (n k : ℕ) → suc n + k ≡ suc (n + k)
one_later n k = omega arith

behind : (n : ℕ) (g : ℕ → ℕ) (rest : List ℕ) (k d : ℕ) → slice_index_or (first_of n g ++ rest) (n + k) d ≡ slice_index_or rest k d
behind zero g rest k d = ap (λ i. slice_index_or rest i d) (zero-add k)
behind (suc n) g rest k d = ap (λ i. slice_index_or (first_of (suc n) g ++ rest) i d) (one_later n k) ∙ behind n (λ i. g (suc i)) rest k d

-- what stands for a variable
pub at_variable : (vars : List ℕ) (base sort index : ℕ) (f : ℕ → ℕ → ℕ) (d : ℕ) → index < slice_index_or vars sort 0
    → slice_index_or (per_variable base vars f) (total (take sort vars) + index) d ≡ f (base + sort) index
at_variable [] base sort index f d h = absurd (omega arith)
at_variable (n ∷ vars) base zero index f d h =
    ap (λ i. slice_index_or (first_of n (f base) ++ per_variable (suc base) vars f) i d) (zero-add index)
    ∙ in_front n (f base) (per_variable (suc base) vars f) index d h ∙ ap (λ s. f s index) (plain base)
  where
    plain : (b : ℕ) → b ≡ b + 0
    plain b = omega arith
at_variable (n ∷ vars) base (suc sort) index f d h =
    ap (λ i. slice_index_or (first_of n (f base) ++ per_variable (suc base) vars f) i d) (add_assoc n (total (take sort vars)) index)
    ∙ behind n (f base) (per_variable (suc base) vars f) (total (take sort vars) + index) d
    ∙ at_variable vars (suc base) sort index f d h ∙ ap (λ s. f s index) (next base sort)
  where
    next : (b s : ℕ) → suc b + s ≡ b + suc s
    next b s = omega arith

-- digits that stay below the radices, variable by variable, fit them
fit_parts : (a b c d : List ℕ) → Fit a b → Fit c d → Fit (a ++ c) (b ++ d)
fit_parts [] [] c d h k = k
fit_parts [] (w ∷ ws) c d h k = absurd h
fit_parts (x ∷ xs) [] c d h k = absurd h
fit_parts (x ∷ xs) (w ∷ ws) c d h k = (h.0, fit_parts xs ws c d h.1 k)

fit_first : (n : ℕ) (f g : ℕ → ℕ) → ((i : ℕ) → f i < g i) → Fit (first_of n f) (first_of n g)
fit_first zero f g h = tt
fit_first (suc n) f g h = (h 0, fit_first n (λ i. f (suc i)) (λ i. g (suc i)) (λ i. h (suc i)))

pub fits : (vars : List ℕ) (base : ℕ) (f g : ℕ → ℕ → ℕ) → ((s i : ℕ) → f s i < g s i) → Fit (per_variable base vars f) (per_variable base vars g)
fits [] base f g h = tt
fits (n ∷ vars) base f g h = fit_parts (first_of n (f base)) (first_of n (g base)) (per_variable (suc base) vars f) (per_variable (suc base) vars g)
    (fit_first n (f base) (g base) (h base)) (fits vars (suc base) f g h)
