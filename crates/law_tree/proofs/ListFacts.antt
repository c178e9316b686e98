-- Items of lists by their places.
use Rattle.std.proofs.Common.{◌≡◌, ◌≢◌, ℕ, zero, suc, ◌<◌, ◌≤◌, ◌+◌, ◌⊎◌, inl, inr, List, [], ◌∷◌, ◌++◌, length, slice_set, slice_index, Some, sym, ap, ◌∙◌, subst, refl, arith}
use Rattle.std.specs.List.{slice_get}
use Rattle.law_sig.specs.Lists.{In, Rising}
use Rattle.law_sig.specs.Lists.In.{here, there}
use Rattle.law_laws.proofs.ListFacts.{in_none, in_rest, of_each}

pub same_or : (k n : ℕ) → (k ≡ n) ⊎ (k ≢ n)
same_or k n = grind arith

pub before_or : (k n : ℕ) → (k < n) ⊎ (n ≤ k)
before_or k n = grind arith

module _ {A : Type 0} where
  pub get_left : (xs ys : List A) (i : ℕ) → i < length xs → slice_get (xs ++ ys) i ≡ slice_get xs i
  get_left [] ys i lt = absurd (omega arith)
  get_left (x ∷ xs) ys zero lt = refl
  get_left (x ∷ xs) ys (suc i) lt = get_left xs ys i (omega arith)

  pub get_right : (xs ys : List A) (i k : ℕ) → i ≡ length xs + k → slice_get (xs ++ ys) i ≡ slice_get ys k
  get_right [] ys i k e = ap (slice_get ys) (let same : i ≡ k = omega arith in same)
  get_right (x ∷ xs) ys zero k e = absurd (omega arith)
  get_right (x ∷ xs) ys (suc i) k e = get_right xs ys i k (omega arith)

  pub set_same : (xs : List A) (i : ℕ) (y : A) → i < length xs → slice_get (slice_set xs i y) i ≡ Some y
  set_same [] i y lt = absurd (omega arith)
  set_same (x ∷ xs) zero y lt = refl
  set_same (x ∷ xs) (suc i) y lt = set_same xs i y (omega arith)

  pub set_other : (xs : List A) (i k : ℕ) (y : A) → k ≢ i → slice_get (slice_set xs i y) k ≡ slice_get xs k
  set_other [] i k y ne = refl
  set_other (x ∷ xs) zero zero y ne = absurd (ne refl)
  set_other (x ∷ xs) zero (suc k) y ne = refl
  set_other (x ∷ xs) (suc i) zero y ne = refl
  set_other (x ∷ xs) (suc i) (suc k) y ne = set_other xs i k y (λ e. ne (ap suc e))

  -- an item put where it stands
  pub set_itself : (xs : List A) (i : ℕ) (y : A) → slice_get xs i ≡ Some y → slice_set xs i y ≡ xs
  set_itself [] i y e = cc
  set_itself (x ∷ xs) zero y e = let same : x ≡ y = cc in ap (λ z. z ∷ xs) (sym same)
  set_itself (x ∷ xs) (suc i) y e = ap (λ z. x ∷ z) (set_itself xs i y e)

  pub get_in : (xs : List A) (i : ℕ) (x : A) → slice_get xs i ≡ Some x → In x xs
  get_in [] i x e = cc
  get_in (y ∷ xs) zero x e = let same : y ≡ x = cc in subst (λ z. In x (z ∷ xs)) (sym same) here
  get_in (y ∷ xs) (suc i) x e = there (get_in xs i x e)

  pub some_same : (x y : A) → Some x ≡ Some y → x ≡ y
  some_same x y e = cc

  pub one_item : (xs : List A) (k : ℕ) (x y : A) → slice_get xs k ≡ Some x → slice_get xs k ≡ Some y → x ≡ y
  one_item xs k x y e f = some_same x y (sym e ∙ f)

-- Numbers that rise

pub index_in : (ns : List ℕ) (i : ℕ) → i < length ns → In (slice_index ns i) ns
index_in [] i lt = absurd (omega arith)
index_in (n ∷ ns) zero lt = here
index_in (n ∷ ns) (suc i) lt = there (index_in ns i (omega arith))

pub in_place : (ns : List ℕ) (n : ℕ) → In n ns → (i : ℕ) × (i < length ns) × (slice_index ns i ≡ n)
in_place [] n at = in_none at
in_place (m ∷ ns) n at = by (in_rest at) (λ h. in_place ns n h)
  where
    by : (n ≡ m) ⊎ In n ns → (In n ns → (i : ℕ) × (i < length ns) × (slice_index ns i ≡ n)) → (i : ℕ) × (i < suc (length ns)) × (slice_index (m ∷ ns) i ≡ n)
    by (inl e) rest = (0, omega arith, sym e)
    by (inr h) rest = let (i, lt, e) = rest h in (suc i, omega arith, e)

pub rises : (ns : List ℕ) → Rising (λ n m. n < m) ns → (i j : ℕ) → i < j → j < length ns → slice_index ns i < slice_index ns j
rises [] rise i j lt within = absurd (omega arith)
rises (n ∷ ns) rise i zero lt within = absurd (omega arith)
rises (n ∷ ns) rise zero (suc j) lt within = of_each (λ m. n < m) (index_in ns j (omega arith)) rise.0
rises (n ∷ ns) rise (suc i) (suc j) lt within = rises ns rise.1 i j (omega arith) (omega arith)

-- a number before the one at a place stands before it
pub before_place : (ns : List ℕ) → Rising (λ n m. n < m) ns → (i k : ℕ) → i < length ns → k < slice_index ns i → In k ns → (j : ℕ) × (j < i) × (slice_index ns j ≡ k)
before_place ns rise i k within less at = by (in_place ns k at)
  where
    by : (j : ℕ) × (j < length ns) × (slice_index ns j ≡ k) → (j : ℕ) × (j < i) × (slice_index ns j ≡ k)
    by (j, lt, e) = of (three j i)
      where
        three : (j i : ℕ) → (j < i) ⊎ ((j ≡ i) ⊎ (i < j))
        three j i = grind arith

        of : (j < i) ⊎ ((j ≡ i) ⊎ (i < j)) → (j : ℕ) × (j < i) × (slice_index ns j ≡ k)
        of (inl h) = (j, h, e)
        of (inr (inl h)) = let same : slice_index ns i ≡ k = ap (slice_index ns) (sym h) ∙ e in absurd (omega arith)
        of (inr (inr h)) = let more = rises ns rise i j h lt in absurd (omega arith)
