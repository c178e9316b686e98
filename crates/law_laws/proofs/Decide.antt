-- Equality of terms can be decided, and so can a property of finitely many numbers.
use Rattle.std.proofs.Common.{◌≡◌, ◌≢◌, ℕ, zero, suc, ◌<◌, ◌⊎◌, inl, inr, Option, refl, sym, ap, subst, arith}
use Rattle.std.specs.Coded.{Coded, coded_option}
use base.Stored.{Gv, gnil, gnum, gcons}
use Rattle.law_sig.specs.declared.tree.Tree.{Tree}
use Rattle.law_sig.specs.contracts.tree.Tree as tree

-- two codes are equal, or they aren't
pub codes_decided : (x y : Gv) → (x ≡ y) ⊎ (x ≢ y)
codes_decided gnil gnil = inl refl
codes_decided gnil (gnum n) = inr (λ e. cc)
codes_decided gnil (gcons c d) = inr (λ e. cc)
codes_decided (gnum n) gnil = inr (λ e. cc)
codes_decided (gnum n) (gnum m) = numbers (same n m)
  where
    same : (n m : ℕ) → (n ≡ m) ⊎ (n ≢ m)
    same zero zero = inl refl
    same zero (suc m) = inr (λ e. omega arith)
    same (suc n) zero = inr (λ e. omega arith)
    same (suc n) (suc m) = next (same n m)
      where
        next : (n ≡ m) ⊎ (n ≢ m) → (suc n ≡ suc m) ⊎ (suc n ≢ suc m)
        next (inl e) = inl (ap suc e)
        next (inr d) = inr (λ e. d (omega arith))

    numbers : (n ≡ m) ⊎ (n ≢ m) → (gnum n ≡ gnum m) ⊎ (gnum n ≢ gnum m)
    numbers (inl e) = inl (ap gnum e)
    numbers (inr d) = inr (λ e. d (cc))
codes_decided (gnum n) (gcons c d) = inr (λ e. cc)
codes_decided (gcons a b) gnil = inr (λ e. cc)
codes_decided (gcons a b) (gnum n) = inr (λ e. cc)
codes_decided (gcons a b) (gcons c d) = both (codes_decided a c) (codes_decided b d)
  where
    both : (a ≡ c) ⊎ (a ≢ c) → (b ≡ d) ⊎ (b ≢ d) → (gcons a b ≡ gcons c d) ⊎ (gcons a b ≢ gcons c d)
    both (inl e) (inl k) = inl (cc)
    both (inl e) (inr k) = inr (λ h. k (cc))
    both (inr e) k = inr (λ h. e (cc))

-- two values of a type with a code are equal, or they aren't
pub decided : {A : Type 0} (c : Coded A) (x y : A) → (x ≡ y) ⊎ (x ≢ y)
decided c x y = by_code (codes_decided (c.code x) (c.code y))
  where
    by_code : (c.code x ≡ c.code y) ⊎ (c.code x ≢ c.code y) → (x ≡ y) ⊎ (x ≢ y)
    by_code (inl e) = inl (c.inj x y e)
    by_code (inr d) = inr (λ e. d (ap c.code e))

pub trees_decided : (s t : Tree) → (s ≡ t) ⊎ (s ≢ t)
trees_decided = decided (tree.the_row).coded

pub values_decided : (v w : Option Tree) → (v ≡ w) ⊎ (v ≢ w)
values_decided = decided (coded_option (tree.the_row).coded)

-- a property that each number decides holds of all numbers below a bound, or fails at one of them
pub below_decided : (P Q : ℕ → Type 0) → ((n : ℕ) → P n ⊎ Q n) → (bound : ℕ)
    → ((n : ℕ) → n < bound → P n) ⊎ ((n : ℕ) × (n < bound) × Q n)
below_decided P Q decide zero = inl (λ n within. absurd (omega arith))
below_decided P Q decide (suc bound) = last (below_decided P Q decide bound) (decide bound)
  where
    last : ((n : ℕ) → n < bound → P n) ⊎ ((n : ℕ) × (n < bound) × Q n) → P bound ⊎ Q bound
        → ((n : ℕ) → n < suc bound → P n) ⊎ ((n : ℕ) × (n < suc bound) × Q n)
    last (inr found) here = inr (found.0, (omega arith), found.2)
    last (inl all) (inr q) = inr (bound, (omega arith), q)
    last (inl all) (inl p) = inl (λ n within. at n (split n within))
      where
        split : (n : ℕ) → n < suc bound → (n < bound) ⊎ (n ≡ bound)
        split n within = grind arith

        at : (n : ℕ) → (n < bound) ⊎ (n ≡ bound) → P n
        at n (inl less) = all n less
        at n (inr e) = subst P (sym e) p
