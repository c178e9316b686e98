-- In how many ways the first variables can be given places, and the digit that a variable reads.
use Rattle.std.proofs.Common.{◌≡◌, ℕ, zero, suc, ◌+◌, ◌*◌, ◌/◌, ◌%◌, ◌^◌, ◌<◌, ◌≤◌, List, [], ◌∷◌, ◌++◌, take, slice_index_or, sym, refl, ap, ap₂, ◌∙◌, subst, arith, zero-add, add_assoc}
use Rattle.std.proofs.Math.Nat.{pow-zero, pow-succ', mul_assoc, mul-le-mul_left}
use Rattle.law_sig.specs.Lists.{Each, total, product}
use Rattle.law_sig.specs.Tests.{first_of, per_variable, digit_in}
use Rattle.law_laws.proofs.Descents.{at_any_place}
use Rattle.law_laws.proofs.Radix.{at_variable}
use Rattle.law_ids.specs.Table.{radices_by}
use Rattle.law_pool.specs.Kept.{ways_before}

-- Products

pub product_append : (xs ys : List ℕ) → product (xs ++ ys) ≡ product xs * product ys
product_append [] ys = omega arith
product_append (x ∷ xs) ys = ap (λ n. x * n) (product_append xs ys) ∙ sym (mul_assoc x (product xs) (product ys))

pub product_first : (n w : ℕ) → product (first_of n (λ i. w)) ≡ w ^ n
product_first zero w = sym (pow-zero w)
product_first (suc n) w = ap (λ p. w * p) (product_first n w) ∙ sym (pow-succ' w n)

-- numbers that are not 0 have a product that isn't, and a first part of them has none greater
pub product_positive : (ws : List ℕ) → Each (λ w. 1 ≤ w) ws → 1 ≤ product ws
product_positive [] wide = omega arith
product_positive (w ∷ ws) wide =
    let h : 1 ≤ product ws = product_positive ws wide.1 in
    let k : w * 1 ≤ w * product ws = mul-le-mul_left w h in
    omega arith

pub product_prefix : (ws : List ℕ) (k : ℕ) → Each (λ w. 1 ≤ w) ws → product (take k ws) ≤ product ws
product_prefix ws zero wide = product_positive ws wide
product_prefix [] (suc k) wide = omega arith
product_prefix (w ∷ ws) (suc k) wide = mul-le-mul_left w (product_prefix ws k wide.1)

-- First parts of what there is for each variable

take_none : (k : ℕ) → take {A = ℕ} k [] ≡ []
take_none zero = refl
take_none (suc k) = refl

take_first : (k n w : ℕ) (rest : List ℕ) → k ≤ n → take k (first_of n (λ i. w) ++ rest) ≡ first_of k (λ i. w)
take_first zero n w rest h = refl
take_first (suc k) zero w rest h = absurd (omega arith)
take_first (suc k) (suc n) w rest h = ap (λ l. w ∷ l) (take_first k n w rest (omega arith))

one_later : (n k : ℕ) → suc n + k ≡ suc (n + k)
one_later n k = omega arith

pub take_behind : (n k w : ℕ) (rest : List ℕ) → take (n + k) (first_of n (λ i. w) ++ rest) ≡ first_of n (λ i. w) ++ take k rest
take_behind zero k w rest = ap (λ i. take i rest) (zero-add k)
take_behind (suc n) k w rest = ap (λ i. take i (w ∷ first_of n (λ i. w) ++ rest)) (one_later n k) ∙ ap (λ l. w ∷ l) (take_behind n k w rest)

-- the variables of a sort multiply the ways by its width, one by one
pub ways_with : (vars : List ℕ) (base sort index : ℕ) (g : ℕ → ℕ) → index ≤ slice_index_or vars sort 0
    → product (take (total (take sort vars) + index) (per_variable base vars (λ s i. g s)))
    ≡ product (take (total (take sort vars)) (per_variable base vars (λ s i. g s))) * g (base + sort) ^ index
ways_with [] base sort index g h =
    let none : index ≡ 0 = omega arith in
    ap product (take_none (total (take sort []) + index)) ∙ one (g (base + sort)) index none
    ∙ ap (λ l. product l * g (base + sort) ^ index) (sym (take_none (total (take sort []))))
  where
    one : (n i : ℕ) → i ≡ 0 → 1 ≡ 1 * n ^ i
    one n i e = ap (λ k. 1 * k) (sym (pow-zero n) ∙ ap (λ j. n ^ j) (sym e))
ways_with (n ∷ vars) base zero index g h =
    ap (λ i. product (take i (first_of n (λ i. g base) ++ per_variable (suc base) vars (λ s i. g s)))) (zero-add index)
    ∙ ap product (take_first index n (g base) (per_variable (suc base) vars (λ s i. g s)) h) ∙ product_first index (g base)
    ∙ ap (λ s. g s ^ index) (plain base) ∙ alone (g (base + 0) ^ index)
  where
    plain : (b : ℕ) → b ≡ b + 0
    plain b = omega arith

    alone : (n : ℕ) → n ≡ 1 * n
    alone n = omega arith
ways_with (n ∷ vars) base (suc sort) index g h =
    let front = first_of n (λ i. g base) in
    let rest = per_variable (suc base) vars (λ s i. g s) in
    let before = total (take sort vars) in
    ap (λ i. product (take i (front ++ rest))) (add_assoc n before index)
    ∙ ap product (take_behind n (before + index) (g base) rest) ∙ product_append front (take (before + index) rest)
    ∙ ap (λ p. product front * p) (ways_with vars (suc base) sort index g h)
    ∙ sym (mul_assoc (product front) (product (take before rest)) (g (suc base + sort) ^ index))
    ∙ ap₂ (λ p s. p * g s ^ index) (sym (product_append front (take before rest)) ∙ ap product (sym (take_behind n before (g base) rest))) (next base sort)
  where
    next : (b s : ℕ) → suc b + s ≡ b + suc s
    next b s = omega arith

pub ways_in : (vars width : List ℕ) (sort index : ℕ) → index ≤ slice_index_or vars sort 0
    → product (take (total (take sort vars) + index) (radices_by vars width)) ≡ ways_before vars width sort * slice_index_or width sort 1 ^ index
ways_in vars width sort index h = ways_with vars 0 sort index (λ s. slice_index_or width s 1) h
    ∙ ap (λ s. ways_before vars width sort * slice_index_or width s 1 ^ index) (zero-add sort)

-- every radix is a width, so none is 0
each_first : (n w : ℕ) (rest : List ℕ) → 1 ≤ w → Each (λ w. 1 ≤ w) rest → Each (λ w. 1 ≤ w) (first_of n (λ i. w) ++ rest)
each_first zero w rest h k = k
each_first (suc n) w rest h k = (h, each_first n w rest h k)

each_variable : (vars : List ℕ) (base : ℕ) (g : ℕ → ℕ) → ((s : ℕ) → 1 ≤ g s) → Each (λ w. 1 ≤ w) (per_variable base vars (λ s i. g s))
each_variable [] base g h = tt
each_variable (n ∷ vars) base g h = each_first n (g base) (per_variable (suc base) vars (λ s i. g s)) (h base) (each_variable vars (suc base) g h)

pub radices_wide : (vars width : List ℕ) → Each (λ w. 1 ≤ w) width → Each (λ w. 1 ≤ w) (radices_by vars width)
radices_wide vars width wide = each_variable vars 0 (λ s. slice_index_or width s 1) (λ s. at_any_place (λ n. 1 ≤ n) width s 1 wide (omega arith))

-- the ways before a variable are at most all of them
pub record IsFew (step power most : ℕ) : Type 0 where
  pub alone : power ≤ most
  pub before : step * power ≤ most
  pub some : 1 ≤ step * power

few_parts : (a b c : ℕ) → 1 ≤ a * b → a * b ≤ c → b ≤ c
few_parts zero b c h k = absurd (omega arith)
few_parts (suc a) b c h k = omega arith

pub few_ways : (vars width : List ℕ) (sort index step power : ℕ) → Each (λ w. 1 ≤ w) width → index ≤ slice_index_or vars sort 0
    → step ≡ ways_before vars width sort → power ≡ slice_index_or width sort 1 ^ index → IsFew step power (product (radices_by vars width))
few_ways vars width sort index step power wide within is_step is_power =
    let radices = radices_by vars width in
    let each = radices_wide vars width wide in
    let e : product (take (total (take sort vars) + index) radices) ≡ step * power = ways_in vars width sort index within ∙ ap₂ ◌*◌ (sym is_step) (sym is_power) in
    let low : 1 ≤ step * power = subst (λ n. 1 ≤ n) e (product_positive (take (total (take sort vars) + index) radices) (each_take radices (total (take sort vars) + index) each)) in
    let high : step * power ≤ product radices = subst (λ n. n ≤ product radices) e (product_prefix radices (total (take sort vars) + index) each) in
    record { alone = few_parts step power (product radices) low high; before = high; some = low }
  where
    each_take : (ws : List ℕ) (k : ℕ) → Each (λ w. 1 ≤ w) ws → Each (λ w. 1 ≤ w) (take k ws)
    each_take [] k h = subst (Each (λ w. 1 ≤ w)) (sym (take_none k)) tt
    each_take (w ∷ ws) zero h = tt
    each_take (w ∷ ws) (suc k) h = (h.0, each_take ws k h.1)

-- the digit of a variable
pub digit_in_ways : (vars width : List ℕ) (sort index step power w all test : ℕ) → index < slice_index_or vars sort 0
    → step ≡ ways_before vars width sort → power ≡ slice_index_or width sort 1 ^ index → w ≡ slice_index_or width sort 1 → all ≡ product (radices_by vars width)
    → test % all / (step * power) % w ≡ digit_in (radices_by vars width) (total (take sort vars) + index) (test % product (radices_by vars width))
digit_in_ways vars width sort index step power w all test within is_step is_power is_w is_all =
    let below : step * power ≡ product (take (total (take sort vars) + index) (radices_by vars width)) =
    ap₂ ◌*◌ is_step is_power ∙ sym (ways_in vars width sort index (omega arith)) in
    let radix : w ≡ slice_index_or (radices_by vars width) (total (take sort vars) + index) 1 =
    is_w ∙ ap (λ s. slice_index_or width s 1) (sym (zero-add sort)) ∙ sym (at_variable vars 0 sort index (λ s i. slice_index_or width s 1) 1 within) in
    ap (λ a. test % a / (step * power) % w) is_all ∙ ap₂ (λ b r. test % product (radices_by vars width) / b % r) below radix
