-- Two lists, item by item in a relation.
use Rattle.std.proofs.Common.{◌≡◌, ℕ, zero, suc, List, [], ◌∷◌, ◌++◌, length, slice_get, Some, refl, ap, subst}
use Rattle.law_testing.specs.Values.{Both}

-- one more of each
pub both_more : {A B : Type 0} (R : A → B → Type 0) (xs : List A) (ys : List B) (x : A) (y : B) → Both R xs ys → R x y → Both R (xs ++ x ∷ []) (ys ++ y ∷ [])
both_more R [] [] x y both is = (is, tt)
both_more R [] (z ∷ ys) x y both is = absurd both
both_more R (z ∷ xs) [] x y both is = absurd both
both_more R (z ∷ xs) (w ∷ ys) x y both is = (both.0, both_more R xs ys x y both.1 is)

-- a relation that follows from it
pub both_map : {A B : Type 0} (R S : A → B → Type 0) → ((x : A) (y : B) → R x y → S x y) → (xs : List A) (ys : List B) → Both R xs ys → Both S xs ys
both_map R S f [] [] both = tt
both_map R S f [] (y ∷ ys) both = absurd both
both_map R S f (x ∷ xs) [] both = absurd both
both_map R S f (x ∷ xs) (y ∷ ys) both = (f x y both.0, both_map R S f xs ys both.1)

pub both_long : {A B : Type 0} (R : A → B → Type 0) (xs : List A) (ys : List B) → Both R xs ys → length xs ≡ length ys
both_long R [] [] both = refl
both_long R [] (y ∷ ys) both = absurd both
both_long R (x ∷ xs) [] both = absurd both
both_long R (x ∷ xs) (y ∷ ys) both = ap suc (both_long R xs ys both.1)

-- what stands at one place of both
pub both_at : {A B : Type 0} (R : A → B → Type 0) (xs : List A) (ys : List B) → Both R xs ys → (at : ℕ) (x : A) → slice_get xs at ≡ Some x
    → (y : B) × (slice_get ys at ≡ Some y) × R x y
both_at R [] [] both at x e = cc
both_at R [] (y ∷ ys) both at x e = absurd both
both_at R (z ∷ xs) [] both at x e = absurd both
both_at R (z ∷ xs) (w ∷ ys) both zero x e = (w, refl, subst (λ a. R a w) (let is : z ≡ x = cc in is) both.0)
both_at R (z ∷ xs) (w ∷ ys) both (suc n) x e = both_at R xs ys both.1 n x e
