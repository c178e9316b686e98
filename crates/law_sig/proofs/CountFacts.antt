-- Products and sums that stop at the last value of a machine number, and the ways to give places.
use Rattle.std.proofs.Common.{◌≡◌, ℕ, zero, suc, ◌+◌, ◌*◌, ◌^◌, ◌<◌, ◌≤◌, ◌⊎◌, inl, inr, lit<, min, List, [], ◌∷◌, ◌++◌, length, drop, slice_index_or, Bool, true, false, Some, None, if◌then◌else◌, nat_lt, ltb-true, lt-ltb, arith, sym, refl, ap, ap₂, ◌∙◌, subst}
use Rattle.std.proofs.Math.Nat.{pow-zero, pow-succ', pow-le-pow_left, pow-le-pow_right, mul_assoc, mul-le-mul_left}
use Rattle.law_sig.specs.Lists.{Each, product}
use Rattle.law_sig.specs.Counts.{at_most}
use Rattle.law_sig.specs.Signature.{width_at}
use Rattle.law_sig.specs.Tests.{first_of, per_variable, assignments}
use Rattle.law_sig.specs.WellFormed.{IsBetween, IsWellFormed}
use Rattle.law_sig.specs.declared.parts.Settings.{Settings}
use Rattle.law_sig.specs.declared.parts.SigParts.{SigParts}

product_append : (xs ys : List ℕ) → product (xs ++ ys) ≡ product xs * product ys
product_append [] ys = omega arith
product_append (x ∷ xs) ys = ap (λ n. x * n) (product_append xs ys) ∙ sym (mul_assoc x (product xs) (product ys))

product_first : (n w : ℕ) → product (first_of n (λ i. w)) ≡ w ^ n
product_first zero w = sym (pow-zero w)
product_first (suc n) w = ap (λ p. w * p) (product_first n w) ∙ sym (pow-succ' w n)

either : (a m : ℕ) → (a ≤ m) ⊎ (m ≤ a)
either zero m = inl (omega arith)
either (suc a) zero = inr (omega arith)
either (suc a) (suc m) = next (either a m)
  where
    next : (a ≤ m) ⊎ (m ≤ a) → (suc a ≤ suc m) ⊎ (suc m ≤ suc a)
    next (inl h) = inl (omega arith)
    next (inr h) = inr (omega arith)

-- a product that stops at a number goes on as the product does
pub stopped_product : (m a b : ℕ) → min (min a m * b) m ≡ min (a * b) m
stopped_product m a zero = omega arith
stopped_product m a (suc b) = by (either a m)
  where
    one : 1 ≤ suc b
    one = omega arith

    by : (a ≤ m) ⊎ (m ≤ a) → min (min a m * suc b) m ≡ min (a * suc b) m
    by (inl h) = let e : min a m ≡ a = omega arith in ap (λ k. min (k * suc b) m) e
    by (inr h) =
        let e : min a m ≡ m = omega arith in
        let low : m * 1 ≤ m * suc b = mul-le-mul_left m one in
        let high : a * 1 ≤ a * suc b = mul-le-mul_left a one in
        let same : min (m * suc b) m ≡ min (a * suc b) m = omega arith in
        ap (λ k. min (k * suc b) m) e ∙ same

-- the ways to give places to the variables of the sorts from this one on
abbrev pub ways_from : SigParts → ℕ → ℕ
ways_from parts at = product (per_variable at (drop at parts.settings.vars) (λ sort index. width_at parts (record { 0 = sort })))

-- so many ways so far, stopped at a number
pub record IsCounting (parts : SigParts) (most at ways : ℕ) : Type 0 where
  pub whole : min (ways * ways_from parts at) most ≡ min (assignments parts) most

drop_at : (xs : List ℕ) (at d : ℕ) → at < length xs → drop at xs ≡ slice_index_or xs at d ∷ drop (at + 1) xs
drop_at [] at d h = absurd (omega arith)
drop_at (x ∷ xs) zero d h = refl
drop_at (x ∷ xs) (suc n) d h =
    let next : suc n + 1 ≡ suc (n + 1) = omega arith in
    drop_at xs n d (omega arith) ∙ ap (λ k. slice_index_or xs n d ∷ drop k (x ∷ xs)) (sym next)

drop_all : (xs : List ℕ) (at : ℕ) → length xs ≤ at → drop at xs ≡ []
drop_all [] zero h = refl
drop_all [] (suc n) h = refl
drop_all (x ∷ xs) zero h = absurd (omega arith)
drop_all (x ∷ xs) (suc n) h = drop_all xs n (omega arith)

-- one sort's variables
ways_next : (parts : SigParts) (at n : ℕ) → at < length parts.settings.vars → n ≡ slice_index_or parts.settings.vars at 0
    → ways_from parts at ≡ width_at parts (record { 0 = at }) ^ n * ways_from parts (at + 1)
ways_next parts at n within is =
    let rest = per_variable (suc at) (drop (at + 1) parts.settings.vars) (λ sort index. width_at parts (record { 0 = sort })) in
    ap (λ l. product (per_variable at l (λ sort index. width_at parts (record { 0 = sort })))) (drop_at parts.settings.vars at 0 within)
    ∙ product_append (first_of (slice_index_or parts.settings.vars at 0) (λ i. width_at parts (record { 0 = at }))) rest
    ∙ ap₂ ◌*◌ (product_first (slice_index_or parts.settings.vars at 0) (width_at parts (record { 0 = at })) ∙ ap (λ k. width_at parts (record { 0 = at }) ^ k) (sym is))
    (ap (λ s. product (per_variable s (drop (at + 1) parts.settings.vars) (λ sort index. width_at parts (record { 0 = sort })))) (later at))
  where
    later : (n : ℕ) → suc n ≡ n + 1
    later n = omega arith

pub counting_more : (parts : SigParts) (most at ways more n w : ℕ) → at < length parts.settings.vars → n ≡ slice_index_or parts.settings.vars at 0
    → w ≡ width_at parts (record { 0 = at }) → more ≡ min (ways * w ^ n) most → IsCounting parts most at ways → IsCounting parts most (at + 1) more
counting_more parts most at ways more n w within is_n is_w is_more counting = record {
  whole = ap (λ k. min (k * ways_from parts (at + 1)) most) is_more ∙ stopped_product most (ways * w ^ n) (ways_from parts (at + 1))
      ∙ ap (λ k. min k most) (mul_assoc ways (w ^ n) (ways_from parts (at + 1)) ∙ ap (λ v. ways * (v ^ n * ways_from parts (at + 1))) is_w
      ∙ ap (λ k. ways * k) (sym (ways_next parts at n within is_n)))
      ∙ counting.whole;
}

pub counting_first : (parts : SigParts) (most : ℕ) → IsCounting parts most 0 1
counting_first parts most = record { whole = ap (λ k. min k most) (alone (assignments parts)) }
  where
    alone : (n : ℕ) → 1 * n ≡ n
    alone n = omega arith

pub counting_last : (parts : SigParts) (most at ways : ℕ) → length parts.settings.vars ≤ at → IsCounting parts most at ways → min ways most ≡ min (assignments parts) most
counting_last parts most at ways past counting =
    ap (λ k. min k most) (plain ways)
    ∙ ap (λ k. min (ways * k) most) (sym (ap (λ l. product (per_variable at l (λ sort index. width_at parts (record { 0 = sort })))) (drop_all parts.settings.vars at past)))
    ∙ counting.whole
  where
    plain : (n : ℕ) → n ≡ n * 1
    plain n = omega arith

-- a power of a width by a number of variables is small
pub few_pow : (w n : ℕ) → w ≤ 16 → n ≤ 8 → w ^ n < 2 ^ 64
few_pow w n h k =
    let low : w ^ n ≤ 16 ^ n = pow-le-pow_left h n in
    let high : 16 ^ n ≤ 16 ^ 8 = pow-le-pow_right (lit< tt) k in
    omega arith

pub each_index : (P : ℕ → Type 0) (ns : List ℕ) (at d : ℕ) → Each P ns → at < length ns → P (slice_index_or ns at d)
each_index P [] at d have h = absurd (omega arith)
each_index P (n ∷ ns) zero d have h = have.0
each_index P (n ∷ ns) (suc at) d have h = each_index P ns at d have.1 (omega arith)

pub same_place : (ns : List ℕ) (at d e : ℕ) → at < length ns → slice_index_or ns at d ≡ slice_index_or ns at e
same_place [] at d e h = absurd (omega arith)
same_place (n ∷ ns) zero d e h = refl
same_place (n ∷ ns) (suc at) d e h = same_place ns at d e (omega arith)

-- The number where it isn't past a limit

pub most_of : (limit n most ways : ℕ) → limit < most → min ways most ≡ min n most → ways ≤ limit → Some ways ≡ at_most limit n
most_of limit n most ways below is within =
    let same : ways ≡ n = omega arith in
    ap Some same ∙ by (nat_lt limit n) refl
  where
    by : (b : Bool) → nat_lt limit n ≡ b → Some n ≡ (if b then None else Some n)
    by true e = let h = ltb-true limit n e in absurd (omega arith)
    by false e = refl

pub past_most : (limit n most ways : ℕ) → limit < most → min ways most ≡ min n most → limit < ways → None ≡ at_most limit n
past_most limit n most ways below is past =
    let more : limit < n = omega arith in
    ap (λ (b : Bool). if b then None else Some n) (sym (lt-ltb limit n more))

-- the settings, as a signature has them
pub record HasPlace (parts : SigParts) (at n w : ℕ) : Type 0 where
  pub vars : n ≡ slice_index_or parts.settings.vars at 0
  pub width : w ≡ width_at parts (record { 0 = at })
  pub few : w ^ n < 2 ^ 64
  pub within : at < length parts.settings.vars

pub has_place : (parts : SigParts) (s : Settings) (vars width : List ℕ) (at : ℕ) → IsWellFormed parts → s ≡ parts.settings → vars ≡ s.vars → width ≡ s.width → at < length vars
    → HasPlace parts at (slice_index_or vars at 0) (slice_index_or width at 0)
has_place parts s vars width at well is is_vars is_width h =
    let same_vars : vars ≡ parts.settings.vars = is_vars ∙ ap (λ (t : Settings). t.vars) is in
    let same_width : width ≡ parts.settings.width = is_width ∙ ap (λ (t : Settings). t.width) is in
    let within : at < length parts.settings.vars = subst (λ l. at < length l) same_vars h in
    let within_width : at < length parts.settings.width = omega (arith, well.settings.vars.one_each, well.settings.width.one_each) in
    let w : slice_index_or width at 0 ≡ slice_index_or parts.settings.width at 1 = ap (λ l. slice_index_or l at 0) same_width ∙ same_place parts.settings.width at 0 1 within_width in
    let n : slice_index_or vars at 0 ≡ slice_index_or parts.settings.vars at 0 = ap (λ l. slice_index_or l at 0) same_vars in
    let few_vars = each_index (IsBetween 0 8) parts.settings.vars at 0 well.settings.vars.in_range within in
    let few_width = each_index (IsBetween 1 16) parts.settings.width at 1 well.settings.width.in_range within_width in
    record {
      vars = n;
      width = w;
      few = few_pow (slice_index_or width at 0) (slice_index_or vars at 0) (omega (arith, w, few_width.1)) (omega (arith, n, few_vars.1));
      within = within;
    }
