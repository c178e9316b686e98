-- Facts about standing in a list, holding of each item, lists joined, lists that rise, and items by number.
use Rattle.std.proofs.Common.{◌≡◌, ℕ, zero, suc, Some, refl, ap, subst, List, [], ◌∷◌, ◌++◌, ◌⊎◌, map, inl, inr}
use Rattle.law_sig.specs.Lists.{In, Each, Rising, numbered}
use Rattle.law_sig.specs.Lists.In.{here, there}
use Rattle.law_laws.proofs.BodyFacts.{some_is, none_is}

-- what holds of all that stand in a list holds of each item, and the other way round
pub each_of : {A : Type 0} (P : A → Type 0) (xs : List A) → ((x : A) → In x xs → P x) → Each P xs
each_of P [] have = tt
each_of P (x ∷ xs) have = (have x here, each_of P xs (λ y at. have y (there at)))

pub of_each : {A : Type 0} (P : A → Type 0) {x : A} {xs : List A} → In x xs → Each P xs → P x
of_each P here have = have.0
of_each P (there at) have = of_each P at have.1

-- what holds of each item has what follows from it
pub each_map : {A : Type 0} (P Q : A → Type 0) → ((x : A) → P x → Q x) → (xs : List A) → Each P xs → Each Q xs
each_map P Q f [] have = tt
each_map P Q f (x ∷ xs) have = (f x have.0, each_map P Q f xs have.1)

pub each_all : {A : Type 0} (P : A → Type 0) → ((x : A) → P x) → (xs : List A) → Each P xs
each_all P f [] = tt
each_all P f (x ∷ xs) = (f x, each_all P f xs)

-- in one of two joined lists
pub in_left : {A : Type 0} {x : A} {xs : List A} (ys : List A) → In x xs → In x (xs ++ ys)
in_left ys here = here
in_left ys (there at) = there (in_left ys at)

pub in_right : {A : Type 0} {x : A} {ys : List A} (xs : List A) → In x ys → In x (xs ++ ys)
in_right [] at = at
in_right (x ∷ xs) at = there (in_right xs at)

pub in_split : {A : Type 0} {x : A} (xs ys : List A) → In x (xs ++ ys) → In x xs ⊎ In x ys
in_split [] ys at = inr at
in_split (y ∷ xs) ys here = inl here
in_split {A} {x} (y ∷ xs) ys (there at) = more (in_split xs ys at)
  where
    more : In x xs ⊎ In x ys → In x (y ∷ xs) ⊎ In x ys
    more (inl h) = inl (there h)
    more (inr h) = inr h

pub in_map : {A B : Type 0} (f : A → B) {x : A} {xs : List A} → In x xs → In (f x) (map f xs)
in_map f here = here
in_map f (there at) = there (in_map f at)

-- a function at each item, around one of them
pub mapped : {A B : Type 0} (g : A → B) (before after : List A) (s : A) → map g (before ++ s ∷ after) ≡ map g before ++ g s ∷ map g after
mapped g [] after s = refl
mapped g (b ∷ before) after s = ap (λ l. g b ∷ l) (mapped g before after s)

-- nothing stands in an empty list, and what stands in any other is its first item or one of the rest
pub in_none : {A G : Type 0} {x : A} → In x [] → G
in_none at = elim at [ ]

pub in_rest : {A : Type 0} {a c : A} {cs : List A} → In a (c ∷ cs) → (a ≡ c) ⊎ In a cs
in_rest here = inl refl
in_rest (there at) = inr at

-- Joined lists

pub each_left : {A : Type 0} (P : A → Type 0) (xs ys : List A) → Each P (xs ++ ys) → Each P xs
each_left P [] ys h = tt
each_left P (x ∷ xs) ys h = (h.0, each_left P xs ys h.1)

pub each_right : {A : Type 0} (P : A → Type 0) (xs ys : List A) → Each P (xs ++ ys) → Each P ys
each_right P [] ys h = h
each_right P (x ∷ xs) ys h = each_right P xs ys h.1

pub each_both : {A : Type 0} (P : A → Type 0) (xs ys : List A) → Each P xs → Each P ys → Each P (xs ++ ys)
each_both P [] ys h k = k
each_both P (x ∷ xs) ys h k = (h.0, each_both P xs ys h.1 k)

pub rising_right : {A : Type 0} (R : A → A → Type 0) (xs ys : List A) → Rising R (xs ++ ys) → Rising R ys
rising_right R [] ys h = h
rising_right R (x ∷ xs) ys h = rising_right R xs ys h.1

-- one rising list after another, where each of the first stands in the relation to each of the second
pub rising_both : {A : Type 0} (R : A → A → Type 0) (xs ys : List A) → Rising R xs → Rising R ys → Each (λ x. Each (R x) ys) xs → Rising R (xs ++ ys)
rising_both R [] ys h k across = k
rising_both R (x ∷ xs) ys h k across = (each_both (R x) xs ys h.0 across.0, rising_both R xs ys h.1 k across.1)

-- what stands before an item stands in the relation to it
pub rising_at : {A : Type 0} (R : A → A → Type 0) (xs : List A) (y : A) (ys : List A) → Rising R (xs ++ y ∷ ys) → {x : A} → In x xs → R x y
rising_at R [] y ys h at = in_none at
rising_at R (x ∷ xs) y ys h here = (each_right (R x) xs (y ∷ ys) h.0).0
rising_at R (x ∷ xs) y ys h (there at) = rising_at R xs y ys h.1 at

-- Items by number

-- what has a number stands in the list, and what stands there has one
pub numbered_in : {A : Type 0} (xs : List A) (n : ℕ) (x : A) → numbered xs n ≡ Some x → In x xs
numbered_in xs zero x h = none_is x h
numbered_in [] (suc n) x h = none_is x h
numbered_in (y ∷ xs) (suc zero) x h = subst (λ z. In z (y ∷ xs)) (some_is y x h) here
numbered_in (y ∷ xs) (suc (suc n)) x h = there (numbered_in xs (suc n) x h)

one_further : {A : Type 0} (x y : A) (xs : List A) → (n : ℕ) × (numbered xs n ≡ Some x) → (n : ℕ) × (numbered (y ∷ xs) n ≡ Some x)
one_further x y xs (zero, h) = none_is x h
one_further x y xs (suc n, h) = (suc (suc n), h)

pub in_numbered : {A : Type 0} {x : A} {xs : List A} → In x xs → (n : ℕ) × (numbered xs n ≡ Some x)
in_numbered here = (1, refl)
in_numbered (there {x = x} {y = y} {xs = xs} at) = one_further x y xs (in_numbered at)
