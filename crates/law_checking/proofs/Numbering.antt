-- Numbers of the terms with a property, and groups of them.
use Rattle.std.proofs.Common.{◌≡◌, ◌≢◌, ℕ, zero, suc, ◌+◌, ◌<◌, ◌⊎◌, inl, inr, Bool, true, false, if◌then◌else◌, Option, Some, None, MatchOption, List, [], ◌∷◌, ◌++◌, length, take, slice_get, slice_index_or, sym, refl, ap, ◌∙◌, subst, arith, rules}
use Rattle.std.proofs.lemmas.List.{length-take-le}
use Rattle.law_sig.specs.Lists.{In, AreDistinct, numbered}
use Rattle.law_sig.specs.Lists.In.{here, there}
use Rattle.law_sig.specs.Trees.{schema_of}
use Rattle.law_sig.specs.declared.tree.Tree.{Tree}
use Rattle.law_laws.proofs.BodyFacts.{some_is, none_is}
use Rattle.law_laws.proofs.ListFacts.{in_none, in_split, in_left, in_right, in_rest, of_each}
use Rattle.law_valid.specs.Trees.{IsNumberOf}
use Rattle.law_checking.proofs.Onces.{take_next}
use Rattle.law_checking.specs.Planted.{AreNumbers, IsOfSchema, AreGroups, IsAdded, same_number, group}

get_push : (xs : List Tree) (x y : Tree) (k : ℕ) → slice_get (xs ++ x ∷ []) k ≡ Some y → (slice_get xs k ≡ Some y) ⊎ ((k ≡ length xs) × (x ≡ y))
get_push [] x y zero e = inr (refl, some_is x y e)
get_push [] x y (suc k) e = none_is y e
get_push (z ∷ xs) x y zero e = inl e
get_push (z ∷ xs) x y (suc k) e = by (get_push xs x y k e)
  where
    by : (slice_get xs k ≡ Some y) ⊎ ((k ≡ length xs) × (x ≡ y)) → (slice_get xs k ≡ Some y) ⊎ ((suc k ≡ suc (length xs)) × (x ≡ y))
    by (inl h) = inl h
    by (inr h) = inr (ap suc h.0, h.1)

get_kept : (xs : List Tree) (x y : Tree) (k : ℕ) → slice_get xs k ≡ Some y → slice_get (xs ++ x ∷ []) k ≡ Some y
get_kept [] x y k e = none_is y e
get_kept (z ∷ xs) x y zero e = e
get_kept (z ∷ xs) x y (suc k) e = get_kept xs x y k e

get_last : (xs : List Tree) (x : Tree) → slice_get (xs ++ x ∷ []) (length xs) ≡ Some x
get_last [] x = refl
get_last (z ∷ xs) x = get_last xs x

get_in : (xs : List Tree) (k : ℕ) (x : Tree) → slice_get xs k ≡ Some x → In x xs
get_in [] k x e = none_is x e
get_in (y ∷ xs) zero x e = subst (λ z. In z (y ∷ xs)) (some_is y x e) here
get_in (y ∷ xs) (suc k) x e = there (get_in xs k x e)

pub get_below : (xs : List Tree) (k : ℕ) (x : Tree) → slice_get xs k ≡ Some x → k < length xs
get_below [] k x e = none_is x e
get_below (y ∷ xs) zero x e = omega arith
get_below (y ∷ xs) (suc k) x e = let h = get_below xs k x e in omega arith

module _ (P : Tree → Type 0) where
  number_kept : (xs : List Tree) (x : Tree) (n : ℕ) → IsNumberOf xs P n → IsNumberOf (xs ++ x ∷ []) P n
  number_kept xs x zero h = none_is h.0 h.1
  number_kept xs x (suc n) h = (h.0, get_kept xs x h.0 n h.1, h.2)

  number_split : (xs : List Tree) (x : Tree) (n : ℕ) → IsNumberOf (xs ++ x ∷ []) P n → IsNumberOf xs P n ⊎ ((n ≡ length xs + 1) × P x)
  number_split xs x zero h = none_is h.0 h.1
  number_split xs x (suc n) h = by (get_push xs x h.0 n h.1)
    where
      by : (slice_get xs n ≡ Some h.0) ⊎ ((n ≡ length xs) × (x ≡ h.0)) → IsNumberOf xs P (suc n) ⊎ ((suc n ≡ length xs + 1) × P x)
      by (inl e) = inl (h.0, e, h.2)
      by (inr e) = inr (let is = e.0 in omega arith, subst P (sym e.1) h.2)

  number_last : (xs : List Tree) (x : Tree) (n : ℕ) → n ≡ length xs + 1 → P x → IsNumberOf (xs ++ x ∷ []) P n
  number_last xs x n is own = subst (IsNumberOf (xs ++ x ∷ []) P) (let on : suc (length xs) ≡ n = omega arith in on) (x, get_last xs x, own)

  kept_push : (xs : List Tree) (x : Tree) (ns : List ℕ) → (P x → ⊥) → AreNumbers xs P ns → AreNumbers (xs ++ x ∷ []) P ns
  kept_push xs x ns never are n = (λ i. number_kept xs x n ((are n).0 i), λ h. elim (number_split xs x n h) [ inl k ↦ (are n).1 k | inr k ↦ absurd (never k.1) ])

  more_push : (xs : List Tree) (x : Tree) (ns : List ℕ) (m : ℕ) → m ≡ length xs + 1 → P x → AreNumbers xs P ns → AreNumbers (xs ++ x ∷ []) P (ns ++ m ∷ [])
  more_push xs x ns m is own are n = (
    λ i. elim (in_split ns (m ∷ []) i) [
      | inl j ↦ number_kept xs x n ((are n).0 j)
      | inr j ↦ number_last xs x n (last j ∙ is) own
    ],
    λ h. elim (number_split xs x n h) [
      | inl k ↦ in_left (m ∷ []) ((are n).1 k)
      | inr k ↦ in_right ns (subst (λ j. In j (m ∷ [])) (is ∙ sym k.0) here)
    ],
  )
    where
      last : In n (m ∷ []) → n ≡ m
      last j = elim (in_rest j) [ inl e ↦ e | inr k ↦ in_none k ]

  pub numbers_kept : (xs : List Tree) (at : ℕ) (x : Tree) (ns : List ℕ) → at < length xs → x ≡ slice_index_or xs at x → (P x → ⊥) → AreNumbers (take at xs) P ns
      → AreNumbers (take (at + 1) xs) P ns
  numbers_kept xs at x ns less is never are = subst (λ l. AreNumbers l P ns) (sym (take_next xs at x less is)) (kept_push (take at xs) x ns never are)

  pub numbers_more : (xs : List Tree) (at : ℕ) (x : Tree) (ns more : List ℕ) → at < length xs → x ≡ slice_index_or xs at x → P x → more ≡ ns ++ (at + 1) ∷ []
      → AreNumbers (take at xs) P ns → AreNumbers (take (at + 1) xs) P more
  numbers_more xs at x ns more less is own grows are =
      subst (AreNumbers (take (at + 1) xs) P) (sym grows)
      (subst (λ l. AreNumbers l P (ns ++ (at + 1) ∷ [])) (sym (take_next xs at x less is))
      (more_push (take at xs) x ns (at + 1) (ap (λ k. k + 1) (sym (length-take-le at xs (omega arith)))) own are))

-- Groups

distinct_places : (xs : List Tree) → AreDistinct xs → (i j : ℕ) (x : Tree) → slice_get xs i ≡ Some x → slice_get xs j ≡ Some x → i ≡ j
distinct_places [] distinct i j x e d = none_is x e
distinct_places (y ∷ xs) distinct zero zero x e d = refl
distinct_places (y ∷ xs) distinct zero (suc j) x e d = absurd (of_each (λ z. y ≢ z) (get_in xs j x d) distinct.0 (some_is y x e))
distinct_places (y ∷ xs) distinct (suc i) zero x e d = absurd (of_each (λ z. y ≢ z) (get_in xs i x e) distinct.0 (some_is y x d))
distinct_places (y ∷ xs) distinct (suc i) (suc j) x e d = ap suc (distinct_places xs distinct.1 i j x e d)

pub one_schema : (spreads : List Tree) → AreDistinct spreads → (k l : ℕ) (t : Tree) → IsOfSchema spreads k t → IsOfSchema spreads l t → k ≡ l
one_schema spreads distinct zero l t e d = none_is (schema_of t) e
one_schema spreads distinct (suc k) zero t e d = none_is (schema_of t) d
one_schema spreads distinct (suc k) (suc l) t e d = ap suc (distinct_places spreads distinct k l (schema_of t) e d)

no_schema : (spreads : List Tree) (k : ℕ) (t : Tree) → IsOfSchema spreads k t → In (schema_of t) spreads
no_schema spreads zero t e = none_is (schema_of t) e
no_schema spreads (suc k) t e = get_in spreads k (schema_of t) e

pub groups_kept : (spreads lives : List Tree) (at : ℕ) (t c : Tree) (found : ℕ → Option (List ℕ)) → at < length lives → t ≡ slice_index_or lives at t → c ≡ schema_of t
    → (In c spreads → ⊥) → AreGroups spreads (take at lives) found → AreGroups spreads (take (at + 1) lives) found
groups_kept spreads lives at t c found less is of never are k =
    numbers_kept (IsOfSchema spreads k) lives at t (group (found k)) less is (λ e. never (subst (λ s. In s spreads) (sym of) (no_schema spreads k t e))) (are k)

pub groups_more : (spreads lives : List Tree) → AreDistinct spreads → (at : ℕ) (t c : Tree) (place : ℕ) (old new : ℕ → Option (List ℕ)) → at < length lives → t ≡ slice_index_or lives at t
    → c ≡ schema_of t → slice_get spreads place ≡ Some c → IsAdded old new (place + 1) (at + 1) → AreGroups spreads (take at lives) old → AreGroups spreads (take (at + 1) lives) new
groups_more spreads lives distinct at t c place old new less is of there_is added are k = by (same_number (place + 1) k) refl (added k)
  where
    own : IsOfSchema spreads (place + 1) t
    own = let on : suc place ≡ place + 1 = omega arith in subst (λ n. numbered spreads n ≡ Some (schema_of t)) on (there_is ∙ ap Some of)

    by : (same : Bool) → same_number (place + 1) k ≡ same → group (new k) ≡ (if same then group (old (place + 1)) ++ (at + 1) ∷ [] else group (old k))
        → AreNumbers (take (at + 1) lives) (IsOfSchema spreads k) (group (new k))
    by true e g =
        let key : place + 1 ≡ k = search rules in
        numbers_more (IsOfSchema spreads k) lives at t (group (old k)) (group (new k)) less is (subst (λ n. IsOfSchema spreads n t) key own)
        (g ∙ ap (λ n. group (old n) ++ (at + 1) ∷ []) key) (are k)
    by false e g =
        subst (AreNumbers (take (at + 1) lives) (IsOfSchema spreads k)) (sym g)
        (numbers_kept (IsOfSchema spreads k) lives at t (group (old k)) less is
        (λ other. let key : place + 1 ≡ k = one_schema spreads distinct (place + 1) k t own other in let f : ⊥ = search rules in f) (are k))

-- what a table says of a term
pub place_is : (table spreads : List Tree) (c : Tree) (o : Option ℕ) (place : ℕ) → table ≡ spreads → o ≡ Some place
    → MatchOption o (In c table → ⊥) (λ k. slice_get table k ≡ Some c) → slice_get spreads place ≡ Some c
place_is table spreads c o place same is h =
    subst (λ ts. slice_get ts place ≡ Some c) same (subst (λ p. MatchOption p (In c table → ⊥) (λ k. slice_get table k ≡ Some c)) is h)

pub place_none : (table spreads : List Tree) (c : Tree) (o : Option ℕ) → table ≡ spreads → o ≡ None
    → MatchOption o (In c table → ⊥) (λ k. slice_get table k ≡ Some c) → In c spreads → ⊥
place_none table spreads c o same is h =
    subst (λ ts. In c ts → ⊥) same (subst (λ p. MatchOption p (In c table → ⊥) (λ k. slice_get table k ≡ Some c)) is h)
