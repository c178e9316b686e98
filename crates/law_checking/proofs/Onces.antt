-- Tables of numbers, and lists that have the same ones.
use Rattle.std.proofs.Common.{◌≡◌, ◌≢◌, ◌↔◌, ℕ, zero, suc, ◌+◌, ◌<◌, ◌≤◌, ◌==◌, ◌⊎◌, inl, inr, Bool, true, false, IsTrue, IfOk, Ok, Err, Result, if◌then◌else◌, List, [], ◌∷◌, ◌++◌, length, take, drop, slice_index_or, sym, refl, ap, ◌∙◌, subst, arith, rules}
use Rattle.std.specs.List.{list_any}
use Rattle.std.proofs.lemmas.List.{take_all, take_more, drop_more, take-append-drop}
use Rattle.law_sig.specs.Lists.{In, Each, AreDistinct}
use Rattle.law_sig.specs.Lists.In.{here, there}
use Rattle.law_laws.proofs.ListFacts.{in_none, in_split, in_left, in_right, in_rest, of_each, each_of, each_right, each_both, rising_both, rising_at}
use Rattle.law_sig.specs.declared.seq.NoMemory.{NoMemory}
use Rattle.law_ids.specs.declared.ids.ValueId.{ValueId}
use Rattle.law_checking.specs.Once.{HaveSame, AreOnce, AreAlike}

-- the first items of a list and the next one
pub take_next : {A : Type 0} (xs : List A) (at : ℕ) (x : A) → at < length xs → x ≡ slice_index_or xs at x → take (at + 1) xs ≡ take at xs ++ x ∷ []
take_next xs at x less is = take_more xs at x less ∙ ap (λ y. take at xs ++ y ∷ []) (sym is)

-- Membership, as it is computed

is_any : (n : ℕ) (ns : List ℕ) → In n ns → list_any (λ m. n == m) ns ≡ true
is_any n ns here = search rules
is_any n (m ∷ ns) (there i) = let h = is_any n ns i in search rules

any_is : (n : ℕ) (ns : List ℕ) → list_any (λ m. n == m) ns ≡ true → In n ns
any_is n [] e = cc
any_is n (m ∷ ns) e = by (n == m) refl (any_is n ns)
  where
    by : (same : Bool) → (n == m) ≡ same → (list_any (λ k. n == k) ns ≡ true → In n ns) → In n (m ∷ ns)
    by true same later = let is : n ≡ m = search rules in subst (λ k. In n (k ∷ ns)) is here
    by false other later = there (later (search rules))

pub is_in : (n : ℕ) (ns : List ℕ) (found : Bool) → found ≡ list_any (λ m. n == m) ns → (IsTrue found → In n ns) × (In n ns → IsTrue found)
is_in n ns found is = (λ e. any_is n ns (sym is ∙ e), λ i. is ∙ is_any n ns i)

-- a table with one number more
abbrev with_key : List ℕ → ℕ → List ℕ
with_key keys n = if list_any (λ m. n == m) keys then keys else keys ++ n ∷ []

key_in : (keys : List ℕ) (n : ℕ) → HaveSame (with_key keys n) (keys ++ n ∷ [])
key_in keys n m = by (list_any (λ k. n == k) keys) refl
  where
    by : (known : Bool) → list_any (λ k. n == k) keys ≡ known → (In m (if known then keys else keys ++ n ∷ []) → In m (keys ++ n ∷ [])) × (In m (keys ++ n ∷ []) → In m (if known then keys else keys ++ n ∷ []))
    by false e = (λ i. i, λ i. i)
    by true e = (in_left (n ∷ []), λ i. back (in_split keys (n ∷ []) i))
      where
        one : In m (n ∷ []) → m ≡ n
        one i = elim (in_rest i) [ inl is ↦ is | inr j ↦ in_none j ]

        back : In m keys ⊎ In m (n ∷ []) → In m keys
        back (inl i) = i
        back (inr i) = subst (λ k. In k keys) (sym (one i)) (any_is n keys e)

pub same_next : (numbers : List ℕ) (at n : ℕ) (keys next : List ℕ) → at < length numbers → n ≡ slice_index_or numbers at n → next ≡ with_key keys n → HaveSame keys (take at numbers)
    → HaveSame next (take (at + 1) numbers)
same_next numbers at n keys next less is grows so_far =
    subst (HaveSame next) (sym (take_next numbers at n less is)) (subst (λ k. HaveSame k (take at numbers ++ n ∷ [])) (sym grows) (λ m. (there_is m, back m)))
  where
    there_is : (m : ℕ) → In m (with_key keys n) → In m (take at numbers ++ n ∷ [])
    there_is m i = elim (in_split keys (n ∷ []) ((key_in keys n m).0 i)) [ inl j ↦ in_left (n ∷ []) ((so_far m).0 j) | inr j ↦ in_right (take at numbers) j ]

    back : (m : ℕ) → In m (take at numbers ++ n ∷ []) → In m (with_key keys n)
    back m i = elim (in_split (take at numbers) (n ∷ []) i) [ inl j ↦ (key_in keys n m).1 (in_left (n ∷ []) ((so_far m).1 j)) | inr j ↦ (key_in keys n m).1 (in_right keys j) ]

pub all_same : (numbers keys : List ℕ) (at : ℕ) → length numbers ≤ at → HaveSame keys (take at numbers) → HaveSame keys numbers
all_same numbers keys at end so_far = subst (HaveSame keys) (take_all at numbers end) so_far

-- Item by item

-- what precedes a place, the item there, and the rest
pub parted_at : {A : Type 0} (xs : List A) (at : ℕ) (x : A) → at < length xs → x ≡ slice_index_or xs at x → xs ≡ take at xs ++ x ∷ drop (at + 1) xs
parted_at xs at x less is = sym (take-append-drop at xs) ∙ ap (λ l. take at xs ++ l) (drop_more xs at x less ∙ ap (λ y. y ∷ drop (at + 1) xs) (sym is))

pub each_next : {A : Type 0} (P : A → Type 0) (xs : List A) (at : ℕ) (x : A) → at < length xs → x ≡ slice_index_or xs at x → Each P (take at xs) → P x → Each P (take (at + 1) xs)
each_next P xs at x less is so_far own = subst (Each P) (sym (take_next xs at x less is)) (each_both P (take at xs) (x ∷ []) so_far (own, tt))

pub each_all_of : {A : Type 0} (P : A → Type 0) (xs : List A) (at : ℕ) → length xs ≤ at → Each P (take at xs) → Each P xs
each_all_of P xs at end so_far = subst (Each P) (take_all at xs end) so_far

pub not_each : {A : Type 0} (P : A → Type 0) (xs : List A) (at : ℕ) (x : A) → at < length xs → x ≡ slice_index_or xs at x → (P x → ⊥) → Each P xs → ⊥
not_each P xs at x less is never all = never (each_right P (take at xs) (x ∷ drop (at + 1) xs) (subst (Each P) (parted_at xs at x less is) all)).0

-- Distinct numbers

pub distinct_next : (ns : List ℕ) (at n : ℕ) (keys : List ℕ) → at < length ns → n ≡ slice_index_or ns at n → HaveSame keys (take at ns) → AreDistinct (take at ns)
    → list_any (λ m. n == m) keys ≡ false → AreDistinct (take (at + 1) ns)
distinct_next ns at n keys less is same so_far fresh =
    subst AreDistinct (sym (take_next ns at n less is))
    (rising_both ◌≢◌ (take at ns) (n ∷ []) so_far (tt, tt) (each_of (λ m. Each (λ k. m ≢ k) (n ∷ [])) (take at ns) (λ m i. (
      λ e.
          let known = is_any n keys (subst (λ k. In k keys) e ((same m).1 i)) in cc,
      tt,
    ))))

pub not_distinct : (ns : List ℕ) (at n : ℕ) (keys : List ℕ) → at < length ns → n ≡ slice_index_or ns at n → HaveSame keys (take at ns)
    → list_any (λ m. n == m) keys ≡ true → AreDistinct ns → ⊥
not_distinct ns at n keys less is same known distinct =
    rising_at ◌≢◌ (take at ns) n (drop (at + 1) ns) (subst AreDistinct (parted_at ns at n less is) distinct) ((same n).0 (any_is n keys known)) refl

pub once_is : (given wanted : List ℕ) → AreDistinct given → Each (λ n. In n wanted) given → Each (λ n. In n given) wanted → AreOnce given wanted
once_is given wanted distinct all back = record { once = distinct; same = λ n. (λ i. of_each (λ m. In m wanted) i all, λ i. of_each (λ m. In m given) i back) }

pub is_once : (given wanted : List ℕ) → AreOnce given wanted → Each (λ n. In n wanted) given × Each (λ n. In n given) wanted
is_once given wanted once = (each_of (λ n. In n wanted) given (λ n i. (once.same n).0 i), each_of (λ n. In n given) wanted (λ n i. (once.same n).1 i))

-- the last of three questions
pub last_in : (given wanted : List ℕ) (r : Result Bool NoMemory) → AreDistinct given → Each (λ n. In n wanted) given
    → IfOk r (λ found. IsTrue found ↔ Each (λ n. In n given) wanted) → IfOk r (λ found. IsTrue found ↔ AreOnce given wanted)
last_in given wanted (Ok found) distinct all h = (λ e. once_is given wanted distinct all (h.0 e), λ once. h.1 (is_once given wanted once).1)
last_in given wanted (Err e) distinct all h = h

-- Values that are alike

id_of : ℕ → ValueId
id_of n = record { 0 = n }

pub not_alike : (values rest : List ValueId) (first v : ValueId) (at : ℕ) → values ≡ first ∷ rest → at < length rest → v ≡ slice_index_or rest at v → v.0 ≢ first.0 → AreAlike values → ⊥
not_alike values rest first v at is less there_is other alike =
    let i : In v rest = subst (In v) (sym (parted_at rest at v less there_is)) (in_right (take at rest) here) in
    let same = subst AreAlike is alike v first (there i) here in
    other (ap (λ (w : ValueId). w.0) same)

pub all_alike : (values rest : List ValueId) (first : ValueId) (at : ℕ) → values ≡ first ∷ rest → length rest ≤ at → Each (λ (v : ValueId). v.0 ≡ first.0) (take at rest) → AreAlike values
unfolding id_of
all_alike values rest first at is end so_far =
    let all = each_all_of (λ (v : ValueId). v.0 ≡ first.0) rest at end so_far in
    subst AreAlike (sym is) (λ v w i j. ap id_of (of_each (λ (v : ValueId). v.0 ≡ first.0) i (refl, all) ∙ sym (of_each (λ (v : ValueId). v.0 ≡ first.0) j (refl, all))))

-- an item by itself, whatever stands for a missing one
same_read : {A : Type 0} (xs : List A) (at : ℕ) (a c : A) → at < length xs → slice_index_or xs at a ≡ slice_index_or xs at c
same_read [] at a c less = absurd (omega arith)
same_read (x ∷ xs) zero a c less = refl
same_read (x ∷ xs) (suc at) a c less = same_read xs at a c (omega arith)

pub reread : {A : Type 0} (xs : List A) (at : ℕ) (d : A) → at < length xs → slice_index_or xs at d ≡ slice_index_or xs at (slice_index_or xs at d)
reread xs at d less = same_read xs at d (slice_index_or xs at d) less
