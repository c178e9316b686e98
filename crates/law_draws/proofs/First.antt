-- Lists of something for each number below a bound.
use Rattle.std.proofs.Common.{◌≡◌, ℕ, zero, suc, ◌+◌, ◌<◌, [], ◌∷◌, ◌++◌, length, drop, slice_index_or, refl, ap, ◌∙◌, arith}
use Rattle.law_sig.specs.Tests.{first_of}

first_snoc : {A : Type 0} (n : ℕ) (f : ℕ → A) → first_of (suc n) f ≡ first_of n f ++ f n ∷ []
first_snoc zero f = refl
first_snoc (suc n) f = ap (λ l. f 0 ∷ l) (first_snoc n (λ i. f (suc i)))

pub first_more : {A : Type 0} (n : ℕ) (f : ℕ → A) → first_of (n + 1) f ≡ first_of n f ++ f n ∷ []
first_more n f = ap (λ k. first_of k f) (one_more n) ∙ first_snoc n f
  where
    one_more : (n : ℕ) → n + 1 ≡ suc n
    one_more n = omega arith

pub length_first : {A : Type 0} (n : ℕ) (f : ℕ → A) → length (first_of n f) ≡ n
length_first zero f = refl
length_first (suc n) f = ap suc (length_first n (λ i. f (suc i)))

pub first_at : {A : Type 0} (n : ℕ) (f : ℕ → A) (at : ℕ) (d : A) → at < n → slice_index_or (first_of n f) at d ≡ f at
first_at zero f at d h = absurd (omega arith)
first_at (suc n) f zero d h = refl
first_at (suc n) f (suc at) d h = first_at n (λ i. f (suc i)) at d (omega arith)

-- from one place on
pub first_from : {A : Type 0} (n : ℕ) (f : ℕ → A) (at : ℕ) → at < n → drop at (first_of n f) ≡ f at ∷ drop (at + 1) (first_of n f)
first_from zero f at h = absurd (omega arith)
first_from (suc n) f zero h = refl
first_from (suc n) f (suc at) h = first_from n (λ i. f (suc i)) at (omega arith) ∙ ap (λ k. f (suc at) ∷ drop k (first_of (suc n) f)) (later at)
  where
    later : (n : ℕ) → suc (n + 1) ≡ suc n + 1
    later n = omega arith

pub first_past : {A : Type 0} (n : ℕ) (f : ℕ → A) (at : ℕ) → (at < n → ⊥) → drop at (first_of n f) ≡ []
first_past zero f zero h = refl
first_past zero f (suc at) h = refl
first_past (suc n) f zero h = absurd (h (omega arith))
first_past (suc n) f (suc at) h = first_past n (λ i. f (suc i)) at (λ k. h (omega arith))
