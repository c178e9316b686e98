-- The rows of lists: what stands among them, and that they come out in rising order.
use Rattle.std.proofs.Common.{◌≡◌, ℕ, zero, suc, ◌+◌, ◌-◌, ◌<◌, ◌≤◌, inl, inr, Bool, true, false, ◌==◌, if◌then◌else◌, List, [], ◌∷◌, map, arith, refl, sym, subst}
use Rattle.std.proofs.Math.Path.{subst₂}
use Rattle.std.proofs.Math.Nat.{eq-or-lt_of_le}
use Rattle.std.proofs.lemmas.Bool.{eqb-true, eq-eqb}
use Rattle.law_sig.specs.Lists.{In, Each, Rising}
use Rattle.law_sig.specs.Lists.In.{here, there}
use Rattle.law_laws.proofs.ListFacts.{of_each, in_left, in_right, in_split, in_map}
use Rattle.law_listing.specs.Rows.{each_below, crossed, choices, AllIn, rows_of, IsChosen, Lex}
use Rattle.law_listing.specs.Choices.{weighing}
use Rattle.law_listing.proofs.Rising.{map_in, rising_append, rising_map}

-- Below a number

pub in_each_below : {A : Type 0} (n : ℕ) (f : ℕ → List A) {x : A} → In x (each_below n f) → (k : ℕ) × (k < n) × In x (f k)
in_each_below zero f at = elim at [ ]
in_each_below (suc n) f at = elim (in_split (each_below n f) (f n) at) [
  | inl h ↦ let (k, less, p) = in_each_below n f h in (k, omega arith, p)
  | inr h ↦ (n, omega arith, h)
]

pub each_below_in : {A : Type 0} (n : ℕ) (f : ℕ → List A) (k : ℕ) {x : A} → k < n → In x (f k) → In x (each_below n f)
each_below_in zero f k less at = absurd (omega arith)
each_below_in {A} (suc n) f k {x} less at =
    let upto : k ≤ n = omega arith in
    elim (eq-or-lt_of_le upto) [
      | inl e ↦ in_right (each_below n f) (subst (λ j. In x (f j)) e at)
      | inr l ↦ in_left (f n) (each_below_in n f k l at)
    ]

pub each_below_rising : {A : Type 0} (R : A → A → Type 0) (n : ℕ) (f : ℕ → List A) → ((k : ℕ) → k < n → Rising R (f k))
    → ((j k : ℕ) → j < k → k < n → (x y : A) → In x (f j) → In y (f k) → R x y) → Rising R (each_below n f)
each_below_rising R zero f own across = tt
each_below_rising R (suc n) f own across =
    rising_append R (each_below n f) (f n)
    (each_below_rising R n f (λ k l. own k (omega arith)) (λ j k l m. across j k l (omega arith)))
    (own n (omega arith))
    (λ x y a b. let (k, less, p) = in_each_below n f a in across k n less (omega arith) x y p b)

-- Crossed

in_crossed : {A : Type 0} (xs : List A) (rows : List (List A)) {row : List A} → In row (crossed xs rows)
    → (x : A) × (rest : List A) × In x xs × In rest rows × (row ≡ x ∷ rest)
in_crossed [] rows at = elim at [ ]
in_crossed (x ∷ xs) rows at = elim (in_split (map (λ r. x ∷ r) rows) (crossed xs rows) at) [
  | inl h ↦ let (rest, p, e) = map_in (λ r. x ∷ r) rows h in (x, rest, here, p, e)
  | inr h ↦ let (y, rest, p, q, e) = in_crossed xs rows h in (y, rest, there p, q, e)
]

crossed_in : {A : Type 0} {x : A} {xs : List A} (rest : List A) (rows : List (List A)) → In x xs → In rest rows → In (x ∷ rest) (crossed xs rows)
crossed_in {A} {x} rest rows here q = in_left _ (in_map (λ (r : List A). x ∷ r) q)
crossed_in rest rows (there p) q = in_right _ (crossed_in rest rows p q)

crossed_rising : {A : Type 0} (R : A → A → Type 0) (xs : List A) (rows : List (List A)) → Rising R xs → Rising (Lex R) rows
    → Rising (Lex R) (crossed xs rows)
crossed_rising R [] rows h k = tt
crossed_rising {A} R (x ∷ xs) rows h k =
    rising_append (Lex R) (map (λ r. x ∷ r) rows) (crossed xs rows)
    (rising_map (Lex R) (Lex R) (λ (r : List A). x ∷ r) rows (λ r s p q l. inr (refl, l)) k)
    (crossed_rising R xs rows h.1 k)
    (λ a b p q.
    let (r, at_r, e) = map_in (λ (r : List A). x ∷ r) rows p in
    let (y, s, at_y, at_s, d) = in_crossed xs rows q in
    subst₂ (Lex R) (sym e) (sym d) (inl (of_each (R x) at_y h.0)))

-- Choices

pub in_choices : {A : Type 0} (lists : List (List A)) (row : List A) → In row (choices lists) → AllIn row lists
in_choices [] [] at = tt
in_choices [] (x ∷ row) (there at) = elim at [ ]
in_choices (l ∷ ls) [] at = let (x, rest, p, q, e) = in_crossed l (choices ls) at in absurd (let f : ⊥ = cc in f)
in_choices (l ∷ ls) (x ∷ row) at =
    let (y, rest, p, q, e) = in_crossed l (choices ls) at in
    let head : y ≡ x = cc in
    let tail : rest ≡ row = cc in
    (subst (λ z. In z l) head p, in_choices ls row (subst (λ z. In z (choices ls)) tail q))

pub choices_in : {A : Type 0} (lists : List (List A)) (row : List A) → AllIn row lists → In row (choices lists)
choices_in [] [] h = here
choices_in [] (x ∷ row) h = absurd h
choices_in (l ∷ ls) [] h = absurd h
choices_in (l ∷ ls) (x ∷ row) h = crossed_in row (choices ls) h.0 (choices_in ls row h.1)

pub choices_rising : {A : Type 0} (R : A → A → Type 0) (lists : List (List A)) → Each (Rising R) lists → Rising (Lex R) (choices lists)
choices_rising R [] h = (tt, tt)
choices_rising R (l ∷ ls) h = crossed_rising R l (choices ls) h.0 (choices_rising R ls h.1)

-- Rows

module _ {A K : Type 0} (items : ℕ → K → List A) where
  empty_row : (b : Bool) (row : List A) → In row (if b then [] ∷ [] else []) → (b ≡ true) × (row ≡ [])
  empty_row true [] at = (refl, refl)
  empty_row true (x ∷ row) (there at) = elim at [ ]
  empty_row false row at = elim at [ ]

  empty_in : (b : Bool) → b ≡ true → In {A = List A} [] (if b then [] ∷ [] else [])
  empty_in true e = here
  empty_in false e = cc

  pub in_rows : (kinds : List K) (n : ℕ) (row : List A) → In row (rows_of items kinds n) → IsChosen items kinds n row
  in_rows [] n [] at = eqb-true n 0 (empty_row (n == 0) [] at).0
  in_rows [] n (x ∷ row) at = let e : x ∷ row ≡ [] = (empty_row (n == 0) (x ∷ row) at).1 in cc
  in_rows (kind ∷ kinds) n [] at =
      let (k, less, p) = in_each_below (n + 1) (λ k. crossed (items k kind) (rows_of items kinds (n - k))) at in
      let (y, rest, q, r, e) = in_crossed (items k kind) (rows_of items kinds (n - k)) p in absurd (let f : ⊥ = cc in f)
  in_rows (kind ∷ kinds) n (x ∷ row) at =
      let (k, less, p) = in_each_below (n + 1) (λ k. crossed (items k kind) (rows_of items kinds (n - k))) at in
      let (y, rest, q, r, e) = in_crossed (items k kind) (rows_of items kinds (n - k)) p in
      let head : y ≡ x = cc in
      let tail : rest ≡ row = cc in
      (k, omega arith, subst (λ z. In z (items k kind)) head q, in_rows kinds (n - k) row (subst (λ z. In z (rows_of items kinds (n - k))) tail r))

  pub rows_in : (kinds : List K) (n : ℕ) (row : List A) → IsChosen items kinds n row → In row (rows_of items kinds n)
  rows_in [] n [] h = empty_in (n == 0) (eq-eqb n 0 h)
  rows_in [] n (x ∷ row) h = absurd h
  rows_in (kind ∷ kinds) n [] h = absurd h
  rows_in (kind ∷ kinds) n (x ∷ row) h =
      let (k, upto, p, rest) = h in
      each_below_in (n + 1) (λ k. crossed (items k kind) (rows_of items kinds (n - k))) k (omega arith)
      (crossed_in row (rows_of items kinds (n - k)) p (rows_in kinds (n - k) row rest))

  -- where each list of items is rising, and items of lower weight stand before those of greater weight, so are the rows
  pub rows_rising : (R : A → A → Type 0) → ((k : ℕ) (kind : K) → Rising R (items k kind))
      → ((j k : ℕ) (kind : K) → j < k → (x y : A) → In x (items j kind) → In y (items k kind) → R x y)
      → (kinds : List K) (n : ℕ) → Rising (Lex R) (rows_of items kinds n)
  rows_rising R own across [] n = by (n == 0)
    where
      by : (b : Bool) → Rising (Lex R) (if b then [] ∷ [] else [])
      by true = (tt, tt)
      by false = tt
  rows_rising R own across (kind ∷ kinds) n =
      each_below_rising (Lex R) (n + 1) (λ k. crossed (items k kind) (rows_of items kinds (n - k)))
      (λ k less. crossed_rising R (items k kind) (rows_of items kinds (n - k)) (own k kind) (rows_rising R own across kinds (n - k)))
      (λ j k less within a b p q.
      let (x, r, at_x, at_r, e) = in_crossed (items j kind) (rows_of items kinds (n - j)) p in
      let (y, s, at_y, at_s, d) = in_crossed (items k kind) (rows_of items kinds (n - k)) q in
      subst₂ (Lex R) (sym e) (sym d) (inl (across j k kind less x y at_x at_y)))

-- Of one weight alone

-- where all items weigh nothing, to choose a row is to choose an item from each list
pub chosen_all : {A : Type 0} (lists : List (List A)) (row : List A) → IsChosen weighing (map (λ l. l ∷ []) lists) 0 row → AllIn row lists
chosen_all [] [] h = tt
chosen_all [] (x ∷ row) h = absurd h
chosen_all (l ∷ ls) [] h = absurd h
chosen_all (l ∷ ls) (x ∷ row) (zero, upto, at, h) = (at, chosen_all ls row h)
chosen_all (l ∷ ls) (x ∷ row) (suc k, upto, at, h) = absurd (omega arith)

pub all_chosen : {A : Type 0} (lists : List (List A)) (row : List A) → AllIn row lists → IsChosen weighing (map (λ l. l ∷ []) lists) 0 row
all_chosen [] [] h = refl
all_chosen [] (x ∷ row) h = absurd h
all_chosen (l ∷ ls) [] h = absurd h
all_chosen (l ∷ ls) (x ∷ row) h = (0, omega arith, h.0, all_chosen ls row h.1)

-- By columns

module _ {A K : Type 0} (columns : K → List (List A)) where
  -- lists by weight for each kind are lists by place and weight
  pub by_columns : (kinds : List K) (n : ℕ) (row : List A) → IsChosen weighing (map columns kinds) n row → IsChosen (λ k kind. weighing k (columns kind)) kinds n row
  by_columns [] n [] h = h
  by_columns [] n (x ∷ row) h = h
  by_columns (kind ∷ kinds) n [] h = h
  by_columns (kind ∷ kinds) n (x ∷ row) (k, upto, at, h) = (k, upto, at, by_columns kinds (n - k) row h)

  pub columns_by : (kinds : List K) (n : ℕ) (row : List A) → IsChosen (λ k kind. weighing k (columns kind)) kinds n row → IsChosen weighing (map columns kinds) n row
  columns_by [] n [] h = h
  columns_by [] n (x ∷ row) h = h
  columns_by (kind ∷ kinds) n [] h = h
  columns_by (kind ∷ kinds) n (x ∷ row) (k, upto, at, h) = (k, upto, at, columns_by kinds (n - k) row h)
