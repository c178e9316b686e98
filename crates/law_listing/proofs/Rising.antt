-- Lists in a rising order: joined, mapped, and where two of their items stand.
use Rattle.std.proofs.Common.{◌≡◌, ℕ, zero, suc, ◌<◌, List, [], ◌∷◌, ◌++◌, map, slice_get, Some, arith, refl}
use Rattle.law_sig.specs.Lists.{In, Each, Rising}
use Rattle.law_sig.specs.Lists.In.{here, there}
use Rattle.law_laws.proofs.ListFacts.{each_of, of_each, each_both}

-- what stands in a mapped list comes from an item
pub map_in : {A B : Type 0} (f : A → B) (xs : List A) {y : B} → In y (map f xs) → (x : A) × In x xs × (y ≡ f x)
map_in f [] at = elim at [ ]
map_in f (x ∷ xs) here = (x, here, refl)
map_in f (x ∷ xs) (there at) = let (z, p, e) = map_in f xs at in (z, there p, e)

-- two rising lists one after the other, where all of the first stand before all of the second
pub rising_append : {A : Type 0} (R : A → A → Type 0) (xs ys : List A) → Rising R xs → Rising R ys
    → ((x y : A) → In x xs → In y ys → R x y) → Rising R (xs ++ ys)
rising_append R [] ys h k across = k
rising_append R (x ∷ xs) ys h k across = (
  each_both (R x) xs ys h.0 (each_of (R x) ys (λ y at. across x y here at)),
  rising_append R xs ys h.1 k (λ u v p q. across u v (there p) q),
)

-- a rising list mapped by a function that keeps the order of its items
pub rising_map : {A B : Type 0} (R : A → A → Type 0) (S : B → B → Type 0) (f : A → B) (xs : List A)
    → ((x y : A) → In x xs → In y xs → R x y → S (f x) (f y)) → Rising R xs → Rising S (map f xs)
rising_map R S f [] keeps h = tt
rising_map {A} {B} R S f (x ∷ xs) keeps h = (
  each_of (S (f x)) (map f xs) (λ y at. from_item y (map_in f xs at)),
  rising_map R S f xs (λ u v p q. keeps u v (there p) (there q)) h.1,
)
  where
    from_item : (y : B) → (z : A) × In z xs × (y ≡ f z) → S (f x) y
    from_item y (z, p, e) = rw e (keeps x z here (there p) (of_each (R x) p h.0))

pub rising_weaken : {A : Type 0} (R S : A → A → Type 0) (xs : List A) → ((x y : A) → In x xs → In y xs → R x y → S x y) → Rising R xs → Rising S xs
rising_weaken R S [] keeps h = tt
rising_weaken R S (x ∷ xs) keeps h = (
  each_of (S x) xs (λ y at. keeps x y here (there at) (of_each (R x) at h.0)),
  rising_weaken R S xs (λ u v p q. keeps u v (there p) (there q)) h.1,
)

-- where an item stands, and that what stands at a place stands in the list
pub place_of : {A : Type 0} {x : A} {xs : List A} → In x xs → (n : ℕ) × (slice_get xs n ≡ Some x)
place_of here = (0, refl)
place_of (there at) = let (n, e) = place_of at in (suc n, e)

pub at_place : {A : Type 0} (x : A) (xs : List A) (n : ℕ) → slice_get xs n ≡ Some x → In x xs
at_place x [] n e = absurd (let f : ⊥ = cc in f)
at_place x (y ∷ xs) zero e = let h : y ≡ x = cc in rw h here
at_place x (y ∷ xs) (suc n) e = there (at_place x xs n e)

-- an item at an earlier place stands in the relation to one at a later place
pub rising_places : {A : Type 0} (R : A → A → Type 0) (xs : List A) (i j : ℕ) (x y : A) → Rising R xs
    → i < j → slice_get xs i ≡ Some x → slice_get xs j ≡ Some y → R x y
rising_places R [] i j x y h less p q = absurd (let f : ⊥ = cc in f)
rising_places R (z ∷ xs) i zero x y h less p q = absurd (omega arith)
rising_places {A} R (z ∷ xs) zero (suc j) x y h less p q = let e : z ≡ x = cc in of_each (R x) (at_place y xs j q) (let P : A → Type 0 = λ w. Each (R w) xs in rw (← e) h.0)
rising_places R (z ∷ xs) (suc i) (suc j) x y h less p q = rising_places R xs i j x y h.1 (omega arith) p q

-- a list is rising where any two of its places say so
pub rising_from : {A : Type 0} (R : A → A → Type 0) (xs : List A)
    → ((i j : ℕ) (x y : A) → i < j → slice_get xs i ≡ Some x → slice_get xs j ≡ Some y → R x y) → Rising R xs
rising_from R [] h = tt
rising_from R (x ∷ xs) h = (
  each_of (R x) xs (λ y at. let (n, e) = place_of at in h 0 (suc n) x y (omega arith) refl e),
  rising_from R xs (λ i j u v less p q. h (suc i) (suc j) u v (omega arith) p q),
)
