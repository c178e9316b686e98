-- A list parted by the value of its items at a test.
use Rattle.std.proofs.Common.{◌≡◌, ◌≢◌, ℕ, ◌⊎◌, inl, inr, List, [], ◌∷◌, ◌++◌, refl, sym, ◌∙◌, subst}
use Rattle.law_sig.specs.Lists.{In}
use Rattle.law_sig.specs.Lists.In.{here, there}
use Rattle.law_laws.proofs.ListFacts.{in_none, in_rest}
use Rattle.law_splits.specs.Agree.{HasOneValue}
use Rattle.law_splits.specs.Rule.{IsParted}
use Rattle.law_splits.specs.Rule.IsParted.{done, same, other}

module _ {A V : Type 0} (M : A → ℕ → V → Type 0) (test : ℕ) where
  -- an item has another value than this one
  abbrev pub HasOther : V → A → Type 0
  HasOther v x = (w : V) × M x test w × (w ≢ v)

  pub same_there : {v : V} {xs ys zs : List A} → IsParted M test v xs ys zs → (x : A) → In x ys → In x xs
  same_there done x at = at
  same_there (same y xs ys zs m p) x at = by (same_there p x) (in_rest at)
    where
      by : (In x ys → In x xs) → (x ≡ y) ⊎ In x ys → In x (y ∷ xs)
      by rest (inl e) = subst (λ z. In x (z ∷ xs)) e here
      by rest (inr h) = there (rest h)
  same_there (other y xs ys zs w m d p) x at = there (same_there p x at)

  pub other_there : {v : V} {xs ys zs : List A} → IsParted M test v xs ys zs → (x : A) → In x zs → In x xs
  other_there done x at = at
  other_there (same y xs ys zs m p) x at = there (other_there p x at)
  other_there (other y xs ys zs w m d p) x at = by (other_there p x) (in_rest at)
    where
      by : (In x zs → In x xs) → (x ≡ y) ⊎ In x zs → In x (y ∷ xs)
      by rest (inl e) = subst (λ z. In x (z ∷ xs)) e here
      by rest (inr h) = there (rest h)

  pub same_has : {v : V} {xs ys zs : List A} → IsParted M test v xs ys zs → (x : A) → In x ys → M x test v
  same_has done x at = in_none at
  same_has {v} (same y xs ys zs m p) x at = by (same_has p x) (in_rest at)
    where
      by : (In x ys → M x test v) → (x ≡ y) ⊎ In x ys → M x test v
      by rest (inl e) = subst (λ z. M z test v) (sym e) m
      by rest (inr h) = rest h
  same_has (other y xs ys zs w m d p) x at = same_has p x at

  pub other_has : {v : V} {xs ys zs : List A} → IsParted M test v xs ys zs → (x : A) → In x zs → HasOther v x
  other_has done x at = in_none at
  other_has (same y xs ys zs m p) x at = other_has p x at
  other_has {v} (other y xs ys zs w m d p) x at = by (other_has p x) (in_rest at)
    where
      by : (In x zs → HasOther v x) → (x ≡ y) ⊎ In x zs → HasOther v x
      by rest (inl e) = (w, subst (λ z. M z test w) (sym e) m, d)
      by rest (inr h) = rest h

  -- each item is in one of the parts
  pub in_part : {v : V} {xs ys zs : List A} → IsParted M test v xs ys zs → (x : A) → In x xs → In x ys ⊎ In x zs
  in_part done x at = inl at
  in_part (same y xs ys zs m p) x at = by (in_part p x) (in_rest at)
    where
      by : (In x xs → In x ys ⊎ In x zs) → (x ≡ y) ⊎ In x xs → In x (y ∷ ys) ⊎ In x zs
      by rest (inl e) = inl (subst (λ z. In x (z ∷ ys)) e here)
      by rest (inr h) = later (rest h)
        where
          later : In x ys ⊎ In x zs → In x (y ∷ ys) ⊎ In x zs
          later (inl k) = inl (there k)
          later (inr k) = inr k
  in_part (other y xs ys zs w m d p) x at = by (in_part p x) (in_rest at)
    where
      by : (In x xs → In x ys ⊎ In x zs) → (x ≡ y) ⊎ In x xs → In x ys ⊎ In x (y ∷ zs)
      by rest (inl e) = inr (subst (λ z. In x (z ∷ zs)) e here)
      by rest (inr h) = later (rest h)
        where
          later : In x ys ⊎ In x zs → In x ys ⊎ In x (y ∷ zs)
          later (inl k) = inl k
          later (inr k) = inr (there k)

  -- the first item of those with its value has it too
  pub first_has : {v : V} {xs ys zs : List A} {x : A} → M x test v → IsParted M test v xs ys zs → (y : A) → In y (x ∷ ys) → M y test v
  first_has {v} {xs} {ys} {zs} {x} m p y at = by (in_rest at)
    where
      by : (y ≡ x) ⊎ In y ys → M y test v
      by (inl e) = subst (λ z. M z test v) (sym e) m
      by (inr h) = same_has p y h

  -- one item more, at the end
  pub same_last : {v : V} {xs ys zs : List A} (x : A) → M x test v → IsParted M test v xs ys zs → IsParted M test v (xs ++ x ∷ []) (ys ++ x ∷ []) zs
  same_last x has done = same x [] [] [] has done
  same_last x has (same y xs ys zs m p) = same y _ _ _ m (same_last x has p)
  same_last x has (other y xs ys zs w m d p) = other y _ _ _ w m d (same_last x has p)

  pub other_last : {v : V} {xs ys zs : List A} (x : A) (w : V) → M x test w → w ≢ v → IsParted M test v xs ys zs
      → IsParted M test v (xs ++ x ∷ []) ys (zs ++ x ∷ [])
  other_last x w has ne done = other x [] [] [] w has ne done
  other_last x w has ne (same y xs ys zs m p) = same y _ _ _ m (other_last x w has ne p)
  other_last x w has ne (other y xs ys zs u m d p) = other y _ _ _ u m d (other_last x w has ne p)

-- There is one way to part a list
module _ {A V : Type 0} (M : A → ℕ → V → Type 0) (one : HasOneValue M) where
  pub one_value_at : (x y : A) (n m : ℕ) (v w : V) → x ≡ y → n ≡ m → M x n v → M y m w → v ≡ w
  one_value_at x y n m v w e f h k = one x n v w h (subst (λ z. M z n w) (sym e) (subst (λ z. M y z w) (sym f) k))

  pub one_parting : {n m : ℕ} {v w : V} {xs ys zs us ps qs : List A} → n ≡ m → v ≡ w → xs ≡ us → IsParted M n v xs ys zs → IsParted M m w us ps qs
      → (ys ≡ ps) × (zs ≡ qs)
  one_parting t e f done done = (refl, refl)
  one_parting t e f done (same y us ps qs m p) = absurd (let no = f in cc)
  one_parting t e f done (other y us ps qs w m d p) = absurd (let no = f in cc)
  one_parting t e f (same x xs ys zs h p) done = absurd (let no = f in cc)
  one_parting t e f (other x xs ys zs v h d p) done = absurd (let no = f in cc)
  one_parting t e f (same x xs ys zs h p) (same y us ps qs k q) =
      let first : x ≡ y = cc in
      let rest : xs ≡ us = cc in
      let r = one_parting t e rest p q in
      (let a = r.0 in cc, r.1)
  one_parting t e f (other x xs ys zs v h d p) (other y us ps qs w k g q) =
      let first : x ≡ y = cc in
      let rest : xs ≡ us = cc in
      let r = one_parting t e rest p q in
      (r.0, let a = r.1 in cc)
  one_parting {n} {m} {v} {w} t e f (same x xs ys zs h p) (other y us ps qs u k g q) =
      let first : x ≡ y = cc in
      absurd (g (sym (one_value_at x y n m v u first t h k) ∙ e))
  one_parting {n} {m} {v} {w} t e f (other x xs ys zs u h d p) (same y us ps qs k q) =
      let first : x ≡ y = cc in
      absurd (d (one_value_at x y n m u w first t h k ∙ sym e))
