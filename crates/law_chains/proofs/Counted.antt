-- Lists that count up, and the variables of a term that do.
use Rattle.std.proofs.Common.{◌≡◌, ℕ, zero, suc, ◌+◌, ◌<◌, ◌≤◌, ◌⊎◌, inl, inr, List, [], ◌∷◌, ◌++◌, length, map, drop, Bool, true, false, true≢false, ◌==◌, nat_lt, eqb-true, eq-eqb, ltb-true, lt-ltb, if◌then◌else◌, Option, Some, None, IsSome, IsTrue, slice_index_or, option_and_then, sym, refl, ap, ap₂, ◌∙◌, subst, arith}
use Rattle.law_sig.specs.Lists.{Each}
use Rattle.law_sig.specs.Trees.{same_sort, joined, holes}
use Rattle.law_sig.specs.Signature.{sort_of, is_declared_sort, args_of}
use Rattle.law_sig.specs.Tests.{first_of}
use Rattle.law_sig.specs.declared.tree.SortId.{SortId}
use Rattle.law_sig.specs.declared.tree.Tree.{Tree}
use Rattle.law_sig.specs.declared.parts.SigParts.{SigParts}
use Rattle.law_sig.specs.General.{IsNumbered}
use Rattle.law_laws.proofs.TreeFacts.{tree_induct, holes-Var, holes-App}
use Rattle.law_laws.proofs.Sorts.{HaveSorts, same_sort_is, sorted_var, sorted_app}
use Rattle.law_laws.proofs.BodyFacts.{none_is}
use Rattle.law_chains.specs.Counting.{counted_from}
use Rattle.law_chains.proofs.Stepping.{dropped_at}

-- first one list and then another
counted_both : (next : ℕ) (xs ys : List ℕ) → counted_from next (xs ++ ys) ≡ option_and_then (λ n. counted_from n ys) (counted_from next xs)
counted_both next [] ys = refl
counted_both next (x ∷ xs) ys = by (counted_both (next + 1) xs ys) (x == next)
  where
    by : counted_from (next + 1) (xs ++ ys) ≡ option_and_then (λ n. counted_from n ys) (counted_from (next + 1) xs) → (c : Bool)
        → (if c then counted_from (next + 1) (xs ++ ys) else None) ≡ option_and_then (λ n. counted_from n ys) (if c then counted_from (next + 1) xs else None)
    by later true = later
    by later false = refl

module _ (sort : SortId) (items : List Tree) (i : ℕ) (arg : Tree) (count : ℕ) (early : i < length items) (is : arg ≡ slice_index_or items i arg) where
  -- the variables of the arguments from a place on
  abbrev after : ℕ → ℕ → Option ℕ
  after k n = counted_from n (joined (map (holes sort) (drop k items)))

  -- they are those of the next argument, and then the others
  next_counted : (found : Option ℕ) → found ≡ counted_from count (holes sort arg) → after i count ≡ option_and_then (after (i + 1)) found
  next_counted found counts =
      ap (λ l. counted_from count (joined (map (holes sort) l))) (dropped_at items i arg early is)
      ∙ counted_both count (holes sort arg) (joined (map (holes sort) (drop (i + 1) items))) ∙ ap (option_and_then (after (i + 1))) (sym counts)

  pub more_counted : (found : Option ℕ) (n : ℕ) (whole : Option ℕ) → found ≡ counted_from count (holes sort arg) → found ≡ Some n → after i count ≡ whole → after (i + 1) n ≡ whole
  more_counted found n whole counts some have = ap (option_and_then (after (i + 1))) (sym some) ∙ sym (next_counted found counts) ∙ have

  pub none_counted : (found whole : Option ℕ) → found ≡ counted_from count (holes sort arg) → found ≡ None → after i count ≡ whole → None ≡ whole
  none_counted found whole counts none have = ap (option_and_then (after (i + 1))) (sym none) ∙ sym (next_counted found counts) ∙ have

-- A list that counts up from 0

first_same : (n : ℕ) (f g : ℕ → ℕ) → ((i : ℕ) → f i ≡ g i) → first_of n f ≡ first_of n g
first_same zero f g same = refl
first_same (suc n) f g same = ap₂ ◌∷◌ (same 0) (first_same n (λ i. f (suc i)) (λ i. g (suc i)) (λ i. same (suc i)))

counts : (k : ℕ) (xs : List ℕ) (n : ℕ) → counted_from k xs ≡ Some n → xs ≡ first_of (length xs) (λ i. k + i)
counts k [] n e = refl
counts k (x ∷ xs) n e = by (counts (k + 1) xs n) (x == k) refl e
  where
    up : (i : ℕ) → (k + 1) + i ≡ k + suc i
    up i = omega arith

    by : (counted_from (k + 1) xs ≡ Some n → xs ≡ first_of (length xs) (λ i. (k + 1) + i)) → (c : Bool) → (x == k) ≡ c
        → (if c then counted_from (k + 1) xs else None) ≡ Some n → x ∷ xs ≡ (k + 0) ∷ first_of (length xs) (λ i. k + suc i)
    by later true same h =
        let first : x ≡ k + 0 = eqb-true x k same ∙ (omega arith) in
        ap₂ ◌∷◌ first (later h ∙ first_same (length xs) (λ i. (k + 1) + i) (λ i. k + suc i) up)
    by later false same h = none_is n h

counted : (k : ℕ) (xs : List ℕ) → xs ≡ first_of (length xs) (λ i. k + i) → IsSome (counted_from k xs)
counted k [] e = refl
counted k (x ∷ xs) e =
    let first : x ≡ k + 0 = cc in
    let others : xs ≡ first_of (length xs) (λ i. k + suc i) = cc in
    subst (λ c. IsSome (if c then counted_from (k + 1) xs else None)) (sym (eq-eqb x k (first ∙ (omega arith))))
    (counted (k + 1) xs (others ∙ first_same (length xs) (λ i. k + suc i) (λ i. (k + 1) + i) up))
  where
    up : (i : ℕ) → k + suc i ≡ (k + 1) + i
    up i = omega arith

plain : (xs : List ℕ) → first_of (length xs) (λ i. 0 + i) ≡ first_of (length xs) (λ i. i)
plain xs = first_same (length xs) (λ i. 0 + i) (λ i. i) (λ i. omega arith)

-- A term whose variables do

-- no variable of an undeclared sort stands in a well-sorted term
undeclared : (parts : SigParts) (sort : SortId) → (is_declared_sort parts sort ≡ true → ⊥) → (t : Tree) (s : SortId) → sort_of parts t ≡ Some s → holes sort t ≡ []
undeclared parts sort never = tree_induct (λ t. (s : SortId) → sort_of parts t ≡ Some s → holes sort t ≡ [])
    (λ u i s e. holes-Var sort u i ∙ other (same_sort u sort) u refl i (sorted_var parts u i s e).0)
    (λ f args have s e. holes-App sort f args ∙ (let a = sorted_app parts f args s e in all args (args_of a.symbol) have a.sorts))
  where
    other : (c : Bool) (u : SortId) → same_sort u sort ≡ c → (i : ℕ) → IsTrue (is_declared_sort parts u) → (if c then i ∷ [] else []) ≡ []
    other true u same i declared = absurd (never (subst (λ w. is_declared_sort parts w ≡ true) (same_sort_is u sort same) declared))
    other false u same i declared = refl

    all : (ts : List Tree) (ws : List SortId) → Each (λ t. (s : SortId) → sort_of parts t ≡ Some s → holes sort t ≡ []) ts → HaveSorts parts ts ws → joined (map (holes sort) ts) ≡ []
    all [] [] have sorts = refl
    all [] (w ∷ ws) have sorts = absurd sorts
    all (t ∷ ts) [] have sorts = absurd sorts
    all (t ∷ ts) (w ∷ ws) have sorts = ap₂ ◌++◌ (have.0 w sorts.0) (all ts ws have.1 sorts.1)

-- those of one sort
abbrev pub IsNumberedAt : Tree → SortId → Type 0
IsNumberedAt t sort = holes sort t ≡ first_of (length (holes sort t)) (λ i. i)

pub numbered_at : (t : Tree) (sort : SortId) (found : Option ℕ) → found ≡ counted_from 0 (holes sort t) → IsSome found → IsNumberedAt t sort
numbered_at t sort (Some n) is some = counts 0 (holes sort t) n (sym is) ∙ plain (holes sort t)
numbered_at t sort None is some = absurd (true≢false (sym some))

pub at_numbered : (t : Tree) (sort : SortId) (found : Option ℕ) → found ≡ counted_from 0 (holes sort t) → IsNumberedAt t sort → IsSome found
at_numbered t sort found is h = subst IsSome (sym is) (counted 0 (holes sort t) (h ∙ sym (plain (holes sort t))))

-- the sorts before a number, and the one with it
pub one_more_sort : (t : Tree) (at : ℕ) (found : Option ℕ) → found ≡ counted_from 0 (holes (record { 0 = at }) t) → IsSome found
    → ((sort : SortId) → sort.0 < at → IsNumberedAt t sort) → (sort : SortId) → sort.0 < at + 1 → IsNumberedAt t sort
one_more_sort t at found is some have sort early = by (split sort.0 at (omega arith))
  where
    split : (n m : ℕ) → n ≤ m → (n < m) ⊎ (m ≡ n)
    split n m h = grind arith

    by : (sort.0 < at) ⊎ (at ≡ sort.0) → IsNumberedAt t sort
    by (inl h) = have sort h
    by (inr e) = numbered_at t sort found (is ∙ ap (λ n. counted_from 0 (holes (record { 0 = n }) t)) e) some

-- where those of all declared sorts do, all do
pub all_numbered : (parts : SigParts) (t : Tree) (n : ℕ) → IsSome (sort_of parts t) → length parts.sort_names ≤ n
    → ((sort : SortId) → sort.0 < n → IsNumberedAt t sort) → IsNumbered t
all_numbered parts t n some past have sort = by (nat_lt sort.0 n) refl
  where
    sorted : (o : Option SortId) → sort_of parts t ≡ o → IsSome o → (s : SortId) × (sort_of parts t ≡ Some s)
    sorted (Some s) e h = (s, e)
    sorted None e h = absurd (true≢false (sym h))

    by : (c : Bool) → nat_lt sort.0 n ≡ c → IsNumberedAt t sort
    by true e = have sort (ltb-true sort.0 n e)
    by false e =
        let s = sorted (sort_of parts t) refl some in
        let none : holes sort t ≡ [] = undeclared parts sort (λ d. (let h = ltb-true sort.0 (length parts.sort_names) d in let k : sort.0 < n = omega arith in
        true≢false (sym (lt-ltb sort.0 n k) ∙ e))) t s.0 s.1 in
        subst (λ (l : List ℕ). l ≡ first_of (length l) (λ i. i)) (sym none) refl
