-- A binding is put among others.
use Rattle.std.proofs.Common.{◌≡◌, ℕ, suc, ◌+◌, ◌<◌, ◌≤◌, rules, ◌⊎◌, inl, inr, Bool, true, false, ◌&&◌, ◌||◌, ◌==◌, nat_lt, if◌then◌else◌, List, [], ◌∷◌, map, insert, slice_set, slice_get, Some, ap, ap₂, sym, ◌∙◌, refl, subst, arith}
use Rattle.std.proofs.lemmas.Bool.{eq-eqb}
use native.Mathlib.Decide.{dec_lt}
use Rattle.law_sig.specs.Lists.{In, Each}
use Rattle.law_sig.specs.Lists.In.{here, there}
use Rattle.law_sig.specs.Trees.{same_sort}
use Rattle.law_sig.specs.Chains.{StandsBefore, is_bound}
use Rattle.law_sig.specs.declared.tree.SortId.{SortId}
use Rattle.law_sig.specs.declared.chain.Bind.{Bind}
use Rattle.law_laws.proofs.ListFacts.{in_rest, in_none, each_map}
use Rattle.law_laws.proofs.Sorts.{same_sort_is, both_true}
use Rattle.law_rewriting.proofs.Binds.{bound_is, bound_itself}
use Rattle.law_bank.specs.Terms.{tree_of}
use Rattle.law_bank.specs.Bank.{Terms, IsOf}
use Rattle.law_bank.specs.Bindings.{Binding, bind_of, binds_of, AllBound, subst_of, AreRising, comes_before, with_binding, before_count}

lt_yes : (m n : ℕ) → nat_lt m n ≡ true → m < n
lt_yes m n e = search rules

not_lt : (m n : ℕ) → nat_lt m n ≡ false → n ≤ m
not_lt m n e = search rules

lt_no : (m n : ℕ) → nat_lt m n ≡ false → (m < n → ⊥)
lt_no m n e h = let k = not_lt m n e in omega (arith, h, k)

greater : (m n : ℕ) → (m < n → ⊥) → (m ≡ n → ⊥) → n < m
greater m n h k = by (dec_lt m n) (dec_lt n m)
  where
    by : Dec (m < n) → Dec (n < m) → n < m
    by (yes l) d = absurd (h l)
    by (no l) (yes g) = g
    by (no l) (no g) = absurd (k (omega arith))

-- Order

before_is : (x b : Binding) → comes_before x.0 x.1 b.0 b.1 ≡ true → StandsBefore (bind_of x) (bind_of b)
before_is x b e = by (nat_lt x.0.0 b.0.0) refl e
  where
    by : (c : Bool) → nat_lt x.0.0 b.0.0 ≡ c → (c || (same_sort x.0 b.0 && nat_lt x.1 b.1)) ≡ true → StandsBefore (bind_of x) (bind_of b)
    by true q e = inl (lt_yes x.0.0 b.0.0 q)
    by false q e = let p = both_true (same_sort x.0 b.0) (nat_lt x.1 b.1) e in inr (same_sort_is x.0 b.0 p.0, lt_yes x.1 b.1 p.1)

-- what is neither the same nor before stands behind
behind : (x b : Binding) → is_bound b.0 b.1 (bind_of x) ≡ false → comes_before x.0 x.1 b.0 b.1 ≡ false → StandsBefore (bind_of b) (bind_of x)
behind x b n e = by (nat_lt x.0.0 b.0.0) refl (same_sort x.0 b.0) refl (nat_lt x.1 b.1) refl e
  where
    same : x.0 ≡ b.0 → (x.1 ≡ b.1 → ⊥)
    same p q = let k : is_bound b.0 b.1 (bind_of x) ≡ true = ap₂ (λ s i. is_bound s i (bind_of x)) (sym p) (sym q) ∙ bound_itself (bind_of x) in cc

    differ : same_sort x.0 b.0 ≡ false → (x.0.0 ≡ b.0.0 → ⊥)
    differ q p = let k = eq-eqb x.0.0 b.0.0 p in cc

    by : (c : Bool) → nat_lt x.0.0 b.0.0 ≡ c → (d : Bool) → same_sort x.0 b.0 ≡ d → (f : Bool) → nat_lt x.1 b.1 ≡ f → (c || (d && f)) ≡ false → StandsBefore (bind_of b) (bind_of x)
    by true p d q f r e = cc
    by false p true q true r e = cc
    by false p true q false r e = let k = same_sort_is x.0 b.0 q in let m = same k in let l = lt_no x.1 b.1 r in inr (sym k, greater x.1 b.1 l m)
    by false p false q f r e = inl (greater x.0.0 b.0.0 (lt_no x.0.0 b.0.0 p) (differ q))

onward : (a b c : Bind) → StandsBefore a b → StandsBefore b c → StandsBefore a c
onward a b c (inl h) (inl k) = inl (omega arith)
onward a b c (inl h) (inr k) = let e = ap (λ (s : SortId). s.0) k.0 in inl (omega (arith, e))
onward a b c (inr h) (inl k) = let e = ap (λ (s : SortId). s.0) h.0 in inl (omega (arith, e))
onward a b c (inr h) (inr k) = let l = h.1 in let m = k.1 in inr (h.0 ∙ k.0, omega (arith, l, m))

-- What with_binding is where its variable stands, and where it doesn't

not_itself : (x b : Binding) → is_bound b.0 b.1 (bind_of x) ≡ true → comes_before x.0 x.1 b.0 b.1 ≡ true → ⊥
not_itself x b e f =
    let p = bound_is b.0 b.1 (bind_of x) e in
    by (before_is x b f) (ap (λ (s : SortId). s.0) p.0) p.1
  where
    by : StandsBefore (bind_of x) (bind_of b) → x.0.0 ≡ b.0.0 → x.1 ≡ b.1 → ⊥
    by (inl h) q r = omega (arith, h, q)
    by (inr h) q r = let l = h.1 in omega (arith, l, r)

pub put_there : (b : Binding) (xs : List Binding) (y : Binding) → slice_get xs (before_count b.0 b.1 xs) ≡ Some y → is_bound b.0 b.1 (bind_of y) ≡ true
    → slice_set xs (before_count b.0 b.1 xs) b ≡ with_binding b xs
put_there b [] y e t = cc
put_there b (x ∷ xs) y e t = by (put_there b xs y) (is_bound b.0 b.1 (bind_of x)) refl (comes_before x.0 x.1 b.0 b.1) refl e
  where
    by : (slice_get xs (before_count b.0 b.1 xs) ≡ Some y → is_bound b.0 b.1 (bind_of y) ≡ true → slice_set xs (before_count b.0 b.1 xs) b ≡ with_binding b xs)
        → (c : Bool) → is_bound b.0 b.1 (bind_of x) ≡ c → (d : Bool) → comes_before x.0 x.1 b.0 b.1 ≡ d → slice_get (x ∷ xs) (if d then 1 + before_count b.0 b.1 xs else 0) ≡ Some y
        → slice_set (x ∷ xs) (if d then 1 + before_count b.0 b.1 xs else 0) b ≡ (if c then b ∷ xs else (if d then x ∷ with_binding b xs else b ∷ x ∷ xs))
    by later true p true q e = absurd (not_itself x b p q)
    by later true p false q e = refl
    by later false p true q e =
        let up : 1 + before_count b.0 b.1 xs ≡ suc (before_count b.0 b.1 xs) = omega arith in
        ap (λ k. slice_set (x ∷ xs) k b) up ∙ ap (λ l. x ∷ l) (later (ap (slice_get (x ∷ xs)) (sym up) ∙ e) t)
    by later false p false q e = let f : x ≡ y = cc in let k : is_bound b.0 b.1 (bind_of x) ≡ true = ap (λ z. is_bound b.0 b.1 (bind_of z)) f ∙ t in cc

pub put_new : (b : Binding) (xs : List Binding) → ((y : Binding) → slice_get xs (before_count b.0 b.1 xs) ≡ Some y → is_bound b.0 b.1 (bind_of y) ≡ false)
    → insert xs (before_count b.0 b.1 xs) b ≡ with_binding b xs
put_new b [] n = refl
put_new b (x ∷ xs) n = by (put_new b xs) (is_bound b.0 b.1 (bind_of x)) refl (comes_before x.0 x.1 b.0 b.1) refl n
  where
    by : (((y : Binding) → slice_get xs (before_count b.0 b.1 xs) ≡ Some y → is_bound b.0 b.1 (bind_of y) ≡ false) → insert xs (before_count b.0 b.1 xs) b ≡ with_binding b xs)
        → (c : Bool) → is_bound b.0 b.1 (bind_of x) ≡ c → (d : Bool) → comes_before x.0 x.1 b.0 b.1 ≡ d
        → ((y : Binding) → slice_get (x ∷ xs) (if d then 1 + before_count b.0 b.1 xs else 0) ≡ Some y → is_bound b.0 b.1 (bind_of y) ≡ false)
        → insert (x ∷ xs) (if d then 1 + before_count b.0 b.1 xs else 0) b ≡ (if c then b ∷ xs else (if d then x ∷ with_binding b xs else b ∷ x ∷ xs))
    by later true p true q n = absurd (not_itself x b p q)
    by later true p false q n = let k = n x refl in cc
    by later false p true q n =
        let up : 1 + before_count b.0 b.1 xs ≡ suc (before_count b.0 b.1 xs) = omega arith in
        ap (λ k. insert (x ∷ xs) k b) up ∙ ap (λ l. x ∷ l) (later (λ y e. n y (ap (slice_get (x ∷ xs)) up ∙ e)))
    by later false p false q n = refl

-- Its items

module _ (b : Binding) where
  pub put_in : (xs : List Binding) (y : Binding) → In y (with_binding b xs) → (y ≡ b) ⊎ In y xs
  put_in [] y at = by (in_rest at)
    where
      by : (y ≡ b) ⊎ In y [] → (y ≡ b) ⊎ In y []
      by h = h
  put_in (x ∷ xs) y at = by (put_in xs y) (is_bound b.0 b.1 (bind_of x)) (comes_before x.0 x.1 b.0 b.1) at
    where
      wider : (y ≡ b) ⊎ In y xs → (y ≡ b) ⊎ In y (x ∷ xs)
      wider (inl e) = inl e
      wider (inr k) = inr (there k)

      first : (In y (with_binding b xs) → (y ≡ b) ⊎ In y xs) → (y ≡ x) ⊎ In y (with_binding b xs) → (y ≡ b) ⊎ In y (x ∷ xs)
      first later (inl e) = inr (subst (λ z. In z (x ∷ xs)) (sym e) here)
      first later (inr k) = wider (later k)

      by : (In y (with_binding b xs) → (y ≡ b) ⊎ In y xs) → (c d : Bool) → In y (if c then b ∷ xs else (if d then x ∷ with_binding b xs else b ∷ x ∷ xs)) → (y ≡ b) ⊎ In y (x ∷ xs)
      by later true d at = wider (in_rest at)
      by later false true at = first later (in_rest at)
      by later false false at = in_rest at

  -- the variable had no binding
  pub in_put : (xs : List Binding) → (In {A = SortId × ℕ} (b.0, b.1) (map (λ (x : Binding). (x.0, x.1)) xs) → ⊥) → (y : Binding) → (y ≡ b) ⊎ In y xs → In y (with_binding b xs)
  in_put [] n y (inl e) = subst (λ z. In z (b ∷ [])) (sym e) here
  in_put [] n y (inr k) = in_none k
  in_put (x ∷ xs) n y h = by (in_put xs (λ k. n (there k)) y) (is_bound b.0 b.1 (bind_of x)) refl (comes_before x.0 x.1 b.0 b.1) h
    where
      other : is_bound b.0 b.1 (bind_of x) ≡ true → ⊥
      other e = let p = bound_is b.0 b.1 (bind_of x) e in n (subst (λ (z : SortId × ℕ). In z ((x.0, x.1) ∷ map (λ (x : Binding). (x.0, x.1)) xs)) (λ i. (p.0 i, p.1 i)) here)

      first : ((y ≡ b) ⊎ In y xs → In y (with_binding b xs)) → (y ≡ b) ⊎ In y (x ∷ xs) → In y (x ∷ with_binding b xs)
      first later (inl e) = there (later (inl e))
      first later (inr k) = second (in_rest k)
        where
          second : (y ≡ x) ⊎ In y xs → In y (x ∷ with_binding b xs)
          second (inl e) = subst (λ z. In z (x ∷ with_binding b xs)) (sym e) here
          second (inr k) = there (later (inr k))

      behind_it : (y ≡ b) ⊎ In y (x ∷ xs) → In y (b ∷ x ∷ xs)
      behind_it (inl e) = subst (λ z. In z (b ∷ x ∷ xs)) (sym e) here
      behind_it (inr k) = there k

      by : ((y ≡ b) ⊎ In y xs → In y (with_binding b xs)) → (c : Bool) → is_bound b.0 b.1 (bind_of x) ≡ c → (d : Bool) → (y ≡ b) ⊎ In y (x ∷ xs)
          → In y (if c then b ∷ xs else (if d then x ∷ with_binding b xs else b ∷ x ∷ xs))
      by later true p d h = absurd (other p)
      by later false p true h = first later h
      by later false p false h = behind_it h

  -- every binding keeps a property that the new one has
  each_put : (P : Binding → Type 0) → P b → (xs : List Binding) → Each P xs → Each P (with_binding b xs)
  each_put P own [] h = (own, tt)
  each_put P own (x ∷ xs) h = by (each_put P own xs h.1) (is_bound b.0 b.1 (bind_of x)) (comes_before x.0 x.1 b.0 b.1)
    where
      by : Each P (with_binding b xs) → (c d : Bool) → Each P (if c then b ∷ xs else (if d then x ∷ with_binding b xs else b ∷ x ∷ xs))
      by later true d = (own, h.1)
      by later false true = (h.0, later)
      by later false false = (own, h)

  pub put_held : (bank : Terms) → IsOf bank b.2.now → (xs : List Binding) → AllBound bank xs → AllBound bank (with_binding b xs)
  put_held bank own xs h = each_put (λ (x : Binding). IsOf bank x.2.now) own xs h

  unmapped : (R : Bind → Type 0) (xs : List Binding) → Each R (binds_of xs) → Each (λ (x : Binding). R (bind_of x)) xs
  unmapped R [] h = tt
  unmapped R (x ∷ xs) h = (h.0, unmapped R xs h.1)

  mapped_each : (R : Bind → Type 0) (xs : List Binding) → Each (λ (x : Binding). R (bind_of x)) xs → Each R (binds_of xs)
  mapped_each R [] h = tt
  mapped_each R (x ∷ xs) h = (h.0, mapped_each R xs h.1)

  pub put_rising : (xs : List Binding) → AreRising xs → AreRising (with_binding b xs)
  put_rising [] h = (tt, tt)
  put_rising (x ∷ xs) h = by (put_rising xs h.1) (is_bound b.0 b.1 (bind_of x)) refl (comes_before x.0 x.1 b.0 b.1) refl
    where
      by : AreRising (with_binding b xs) → (c : Bool) → is_bound b.0 b.1 (bind_of x) ≡ c → (d : Bool) → comes_before x.0 x.1 b.0 b.1 ≡ d
          → AreRising (if c then b ∷ xs else (if d then x ∷ with_binding b xs else b ∷ x ∷ xs))
      by later true p d q =
          let same = bound_is b.0 b.1 (bind_of x) p in
          let stay : (c : Bind) → StandsBefore (bind_of x) c → StandsBefore (bind_of b) c =
          λ c. subst (λ (v : SortId × ℕ). (v.0.0 < c.sort.0) ⊎ ((v.0 ≡ c.sort) × (v.1 < c.index))) (λ i. (same.0 i, same.1 i)) in
          (each_map (StandsBefore (bind_of x)) (StandsBefore (bind_of b)) stay (binds_of xs) h.0, h.1)
      by later false p true q = (
        mapped_each (StandsBefore (bind_of x)) (with_binding b xs)
            (each_put (λ (y : Binding). StandsBefore (bind_of x) (bind_of y)) (before_is x b q) xs (unmapped (StandsBefore (bind_of x)) xs h.0)),
        later,
      )
      by later false p false q =
          let first = behind x b p q in
          ((first, each_map (StandsBefore (bind_of x)) (StandsBefore (bind_of b)) (λ c. onward (bind_of b) (bind_of x) c first) (binds_of xs) h.0), h)

  pub put_value : (xs : List Binding) (s : SortId) (i : ℕ) → AreRising xs → subst_of (with_binding b xs) s i ≡ (if is_bound s i (bind_of b) then tree_of b.2.now else subst_of xs s i)
  put_value [] s i r = refl
  put_value (x ∷ xs) s i r = by (put_value xs s i r.1) (is_bound b.0 b.1 (bind_of x)) refl (comes_before x.0 x.1 b.0 b.1) (is_bound s i (bind_of b)) refl (is_bound s i (bind_of x)) refl
    where
      moved : is_bound b.0 b.1 (bind_of x) ≡ true → is_bound s i (bind_of x) ≡ is_bound s i (bind_of b)
      moved p = let same = bound_is b.0 b.1 (bind_of x) p in ap₂ (λ (u : SortId) (j : ℕ). same_sort u s && (j == i)) same.0 same.1

      clash : is_bound b.0 b.1 (bind_of x) ≡ false → is_bound s i (bind_of b) ≡ true → is_bound s i (bind_of x) ≡ true → ⊥
      clash p e f =
          let k = bound_is s i (bind_of b) e in
          let l : is_bound b.0 b.1 (bind_of x) ≡ is_bound s i (bind_of x) = ap₂ (λ u j. is_bound u j (bind_of x)) k.0 k.1 in cc

      by : subst_of (with_binding b xs) s i ≡ (if is_bound s i (bind_of b) then tree_of b.2.now else subst_of xs s i)
          → (c : Bool) → is_bound b.0 b.1 (bind_of x) ≡ c → (d : Bool) → (e : Bool) → is_bound s i (bind_of b) ≡ e → (f : Bool) → is_bound s i (bind_of x) ≡ f
          → subst_of (if c then b ∷ xs else (if d then x ∷ with_binding b xs else b ∷ x ∷ xs)) s i
          ≡ (if is_bound s i (bind_of b) then tree_of b.2.now else (if is_bound s i (bind_of x) then tree_of x.2.now else subst_of xs s i))
      by later true p d true e f q = let z = e in ap (λ w. if w then tree_of b.2.now else subst_of xs s i) e ∙ sym (ap (λ w. if w then tree_of b.2.now else (if is_bound s i (bind_of x) then tree_of x.2.now else subst_of xs s i)) e)
      by later true p d false e f q =
          let g : is_bound s i (bind_of x) ≡ false = moved p ∙ e in
          ap (λ w. if w then tree_of b.2.now else subst_of xs s i) e
          ∙ sym (ap₂ (λ w v. if w then tree_of b.2.now else (if v then tree_of x.2.now else subst_of xs s i)) e g)
      by later false p true true e true q = absurd (clash p e q)
      by later false p true true e false q = ap (λ v. if v then tree_of x.2.now else subst_of (with_binding b xs) s i) q ∙ later ∙ ap (λ w. if w then tree_of b.2.now else subst_of xs s i) e
          ∙ sym (ap (λ w. if w then tree_of b.2.now else (if is_bound s i (bind_of x) then tree_of x.2.now else subst_of xs s i)) e)
      by later false p true false e true q = ap (λ v. if v then tree_of x.2.now else subst_of (with_binding b xs) s i) q
          ∙ sym (ap₂ (λ w v. if w then tree_of b.2.now else (if v then tree_of x.2.now else subst_of xs s i)) e q)
      by later false p true false e false q = ap (λ v. if v then tree_of x.2.now else subst_of (with_binding b xs) s i) q ∙ later ∙ ap (λ w. if w then tree_of b.2.now else subst_of xs s i) e
          ∙ sym (ap₂ (λ w v. if w then tree_of b.2.now else (if v then tree_of x.2.now else subst_of xs s i)) e q)
      by later false p false e q f r = refl
