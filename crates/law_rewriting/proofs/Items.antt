-- The pairs in order: one item for a number, which stays while equations are added.
use Rattle.std.proofs.Common.{◌≡◌, ℕ, zero, suc, ◌<◌, ◌≤◌, max, ◌⊎◌, inl, inr, Some, List, [], ◌∷◌, ◌++◌, length, slice_get, sym, refl, ap, ap₂, ◌∙◌, subst, arith}
use Rattle.law_sig.specs.Lists.{In, Each, Rising}
use Rattle.law_sig.specs.Lists.In.{here, there}
use Rattle.law_sig.specs.declared.parts.Equation.{Equation}
use Rattle.law_sig.specs.declared.parts.SigParts.{SigParts}
use Rattle.law_laws.proofs.ListFacts.{in_none, in_rest, in_split, of_each}
use Rattle.law_sig.specs.declared.chain.Dir.{Dir}
use Rattle.law_sig.specs.declared.chain.Dir.TheVariants as dir
use Rattle.law_sig.specs.Lists.{numbered}
use Rattle.law_rewriting.specs.Pairs.{PairName, NamedPair, IsPair, dir_number, compared, ListBefore, NameBefore, PairBefore, AreInOrder, IsItem, IsEnd}
use Rattle.law_rewriting.proofs.Places.{numbers_decided}
use Rattle.law_rewriting.proofs.OnePair.{one_pair}

-- The order of lists of numbers

never_itself : (ms : List ℕ) → ListBefore ms ms → ⊥
never_itself [] h = h
never_itself (m ∷ ms) (inl h) = omega arith
never_itself (m ∷ ms) (inr h) = never_itself ms h.1

after_that : (ks ms ns : List ℕ) → ListBefore ks ms → ListBefore ms ns → ListBefore ks ns
after_that [] [] ns h k = absurd h
after_that [] (m ∷ ms) [] h k = absurd k
after_that [] (m ∷ ms) (n ∷ ns) h k = tt
after_that (x ∷ xs) [] ns h k = absurd h
after_that (x ∷ xs) (m ∷ ms) [] h k = absurd k
after_that (x ∷ xs) (m ∷ ms) (n ∷ ns) (inl h) (inl k) = inl (omega arith)
after_that (x ∷ xs) (m ∷ ms) (n ∷ ns) (inl h) (inr k) = let e = k.0 in inl (omega (arith, e))
after_that (x ∷ xs) (m ∷ ms) (n ∷ ns) (inr h) (inl k) = let e = h.0 in inl (omega (arith, e))
after_that (x ∷ xs) (m ∷ ms) (n ∷ ns) (inr h) (inr k) = inr (h.0 ∙ k.0, after_that xs ms ns h.1 k.1)

lists_decided : (ms ns : List ℕ) → ListBefore ms ns ⊎ ((ms ≡ ns) ⊎ ListBefore ns ms)
lists_decided [] [] = inr (inl refl)
lists_decided [] (n ∷ ns) = inl tt
lists_decided (m ∷ ms) [] = inr (inr tt)
lists_decided (m ∷ ms) (n ∷ ns) = by (numbers_decided m n) (lists_decided ms ns)
  where
    by : (m < n) ⊎ ((m ≡ n) ⊎ (n < m)) → ListBefore ms ns ⊎ ((ms ≡ ns) ⊎ ListBefore ns ms) → ListBefore (m ∷ ms) (n ∷ ns) ⊎ (((m ∷ ms) ≡ (n ∷ ns)) ⊎ ListBefore (n ∷ ns) (m ∷ ms))
    by (inl h) k = inl (inl h)
    by (inr (inr h)) k = inr (inr (inl h))
    by (inr (inl e)) (inl k) = inl (inr (e, k))
    by (inr (inl e)) (inr (inl k)) = inr (inl (ap₂ ◌∷◌ e k))
    by (inr (inl e)) (inr (inr k)) = inr (inr (inr (sym e, k)))

-- Names

pub strict_pairs : (x y : NamedPair) → PairBefore x y → PairBefore y x → ⊥
strict_pairs x y h k = never_itself (compared x.name) (after_that (compared x.name) (compared y.name) (compared x.name) h k)

dir_is : (d e : Dir) → dir_number d ≡ dir_number e → d ≡ e
dir_is dir.LeftToRight dir.LeftToRight h = refl
dir_is dir.LeftToRight dir.RightToLeft h = absurd (omega (arith, h))
dir_is dir.RightToLeft dir.LeftToRight h = absurd (omega (arith, h))
dir_is dir.RightToLeft dir.RightToLeft h = refl

name_is : (m n : PairName) → compared m ≡ compared n → m ≡ n
name_is m n e =
    let a : m.outer ≡ n.outer = cc in
    let b : m.inner ≡ n.inner = cc in
    let c : dir_number m.outer_dir ≡ dir_number n.outer_dir = cc in
    let d : dir_number m.inner_dir ≡ dir_number n.inner_dir = cc in
    let p : m.place ≡ n.place = cc in
    λ i. let x : PairName = record { outer = a i; inner = b i; outer_dir = dir_is m.outer_dir n.outer_dir c i; inner_dir = dir_is m.inner_dir n.inner_dir d i; place = p i } in x

pub names_decided : (m n : PairName) → NameBefore m n ⊎ ((m ≡ n) ⊎ NameBefore n m)
names_decided m n = by (lists_decided (compared m) (compared n))
  where
    by : ListBefore (compared m) (compared n) ⊎ ((compared m ≡ compared n) ⊎ ListBefore (compared n) (compared m)) → NameBefore m n ⊎ ((m ≡ n) ⊎ NameBefore n m)
    by (inl h) = inl h
    by (inr (inl e)) = inr (inl (name_is m n e))
    by (inr (inr h)) = inr (inr h)

-- Lists in order

-- a list in order of what stands in another is no longer
no_longer : (xs ys : List NamedPair) → Rising PairBefore xs → Rising PairBefore ys → ((z : NamedPair) → In z xs → In z ys) → length xs ≤ length ys
no_longer [] ys r q to = omega arith
no_longer (x ∷ xs) [] r q to = in_none (to x here)
no_longer (x ∷ xs) (y ∷ ys) r q to = by (in_rest (to x here)) (no_longer xs ys r.1 q.1) (no_longer (x ∷ xs) ys r q.1)
  where
    tail : (z : NamedPair) → PairBefore y z → (z ≡ y) ⊎ In z ys → In z ys
    tail z h (inl e) = let k = subst (PairBefore y) e h in absurd (strict_pairs y y k k)
    tail z h (inr at) = at

    all : In x ys → (z : NamedPair) → In z (x ∷ xs) → PairBefore y z
    all at z k = here_or (in_rest k)
      where
        first : PairBefore y x
        first = of_each (PairBefore y) at q.0

        here_or : (z ≡ x) ⊎ In z xs → PairBefore y z
        here_or (inl e) = subst (PairBefore y) (sym e) first
        here_or (inr k) = after_that (compared y.name) (compared x.name) (compared z.name) first (of_each (PairBefore x) k r.0)

    by : (x ≡ y) ⊎ In x ys → (((z : NamedPair) → In z xs → In z ys) → length xs ≤ length ys) → (((z : NamedPair) → In z (x ∷ xs) → In z ys) → length (x ∷ xs) ≤ length ys)
        → length (x ∷ xs) ≤ length (y ∷ ys)
    by (inl e) short long =
        let h = short (λ z at. tail z (subst (λ w. PairBefore w z) e (of_each (PairBefore x) at r.0)) (in_rest (to z (there at)))) in omega (arith, h)
    by (inr at) short long = let h = long (λ z k. tail z (all at z k) (in_rest (to z k))) in omega (arith, h)

pub same_length : (P Q : NamedPair → Type 0) (xs ys : List NamedPair) → AreInOrder P xs → AreInOrder Q ys → ((z : NamedPair) → P z → Q z) → ((z : NamedPair) → Q z → P z) → length xs ≡ length ys
same_length P Q xs ys a b to back =
    let h = no_longer xs ys a.rising b.rising (λ z at. (b.exact z).1 (to z ((a.exact z).0 at))) in
    let k = no_longer ys xs b.rising a.rising (λ z at. (a.exact z).1 (back z ((b.exact z).0 at))) in
    omega (arith, h, k)

-- one more that stands behind all
rising_then : (xs : List NamedPair) (x : NamedPair) → Rising PairBefore xs → ((z : NamedPair) → In z xs → PairBefore z x) → Rising PairBefore (xs ++ x ∷ [])
rising_then [] x r h = (tt, tt)
rising_then (y ∷ xs) x r h = (more xs r.0 (h y here), rising_then xs x r.1 (λ z at. h z (there at)))
  where
    more : (zs : List NamedPair) → Each (PairBefore y) zs → PairBefore y x → Each (PairBefore y) (zs ++ x ∷ [])
    more [] e k = (k, tt)
    more (z ∷ zs) e k = (e.0, more zs e.1 k)

length_then : (xs : List NamedPair) (x : NamedPair) → length (xs ++ x ∷ []) ≡ suc (length xs)
length_then [] x = refl
length_then (y ∷ xs) x = ap suc (length_then xs x)

-- fewer stand before what comes before
pub fewer : (P Q : NamedPair → Type 0) (x : NamedPair) (xs ys : List NamedPair) → AreInOrder P xs → AreInOrder Q ys
    → ((z : NamedPair) → P z → Q z × PairBefore z x) → Q x → length xs < length ys
fewer P Q x xs ys a b to is =
    let h = no_longer (xs ++ x ∷ []) ys (rising_then xs x a.rising (λ z at. (to z ((a.exact z).0 at)).1)) b.rising
    (λ z at. (b.exact z).1 (member z (in_split xs (x ∷ []) at))) in
    let l = length_then xs x in omega (arith, h, l)
  where
    only : (z : NamedPair) → (z ≡ x) ⊎ In z [] → Q z
    only z (inl e) = subst Q (sym e) is
    only z (inr none) = in_none none

    member : (z : NamedPair) → In z xs ⊎ In z (x ∷ []) → Q z
    member z (inl at) = (to z ((a.exact z).0 at)).0
    member z (inr at) = only z (in_rest at)

module _ (parts : SigParts) (equations : List Equation) (n : ℕ) where
  item_before : (x y : NamedPair) → IsItem parts equations n x → IsItem parts equations n y → NameBefore x.name y.name → ⊥
  item_before x y h k b =
      let l = fewer (λ z. IsPair parts equations z × PairBefore z x) (λ z. IsPair parts equations z × PairBefore z y) x h.before k.before h.all_before k.all_before
      (λ z p. ((p.0, after_that (compared z.name) (compared x.name) (compared y.name) p.1 b), p.1)) (h.is, b) in
      let c = h.count in let d = k.count in omega (arith, l, c, d)

  -- there is one item for a number
  pub one_item : (x y : NamedPair) → IsItem parts equations n x → IsItem parts equations n y → x ≡ y
  one_item x y h k = by (names_decided x.name y.name)
    where
      by : NameBefore x.name y.name ⊎ ((x.name ≡ y.name) ⊎ NameBefore y.name x.name) → x ≡ y
      by (inl b) = absurd (item_before x y h k b)
      by (inr (inr b)) = absurd (item_before y x k h b)
      by (inr (inl e)) = one_pair parts equations x y e h.is k.is

  -- and none where they end
  pub no_item : (x : NamedPair) → IsItem parts equations n x → IsEnd parts equations n → ⊥
  no_item x h e =
      let l = fewer (λ z. IsPair parts equations z × PairBefore z x) (IsPair parts equations) x h.before e.pairs h.all_before e.all_pairs (λ z p. (p.0, p.1)) h.is in
      let c = h.count in let d = e.count in omega (arith, l, c, d)

-- More equations

pub numbered_more : {A : Type 0} (xs ys : List A) (n : ℕ) (x : A) → numbered xs n ≡ Some x → numbered (xs ++ ys) n ≡ Some x
numbered_more xs ys zero x e = cc
numbered_more xs ys (suc n) x e = at xs n e
  where
    at : (xs : List _) (n : ℕ) → slice_get xs n ≡ Some x → slice_get (xs ++ ys) n ≡ Some x
    at [] n e = cc
    at (z ∷ zs) zero e = e
    at (z ∷ zs) (suc n) e = at zs n e

numbered_within : {A : Type 0} (xs : List A) (n : ℕ) (x : A) → numbered xs n ≡ Some x → n ≤ length xs
numbered_within xs zero x e = omega arith
numbered_within xs (suc n) x e = at xs n e
  where
    at : (xs : List _) (n : ℕ) → slice_get xs n ≡ Some x → suc n ≤ length xs
    at [] n e = cc
    at (z ∷ zs) zero e = omega arith
    at (z ∷ zs) (suc n) e = let h = at zs n e in omega (arith, h)

numbered_fewer : {A : Type 0} (xs ys : List A) (n : ℕ) (x : A) → n ≤ length xs → numbered (xs ++ ys) n ≡ Some x → numbered xs n ≡ Some x
numbered_fewer xs ys zero x h e = cc
numbered_fewer xs ys (suc n) x h e = at xs n (omega (arith, h)) e
  where
    at : (xs : List _) (n : ℕ) → n < length xs → slice_get (xs ++ ys) n ≡ Some x → slice_get xs n ≡ Some x
    at [] n h e = absurd (omega arith)
    at (z ∷ zs) zero h e = e
    at (z ∷ zs) (suc n) h e = at zs n (omega arith) e

-- the greater number of a pair's equations is a number of theirs
within : (parts : SigParts) (equations : List Equation) (x : NamedPair) → IsPair parts equations x → max x.name.outer x.name.inner ≤ length equations
within parts equations x h =
    let a = numbered_within equations x.name.outer h.overlaps.outer h.overlaps.outer_is in
    let b = numbered_within equations x.name.inner h.overlaps.inner h.overlaps.inner_is in omega (arith, a, b)

overlaps_by : (parts : SigParts) (equations others : List Equation) (x : NamedPair) (h : IsPair parts equations x)
    → numbered others x.name.outer ≡ Some h.overlaps.outer → numbered others x.name.inner ≡ Some h.overlaps.inner → IsPair parts others x
overlaps_by parts equations others x h a b = let v = h.overlaps in record {
  raw = h.raw;
  is = h.is;
  overlaps = record { outer = v.outer; inner = v.inner; outer_is = a; inner_is = b; by = v.by; apart = v.apart; head = v.head; args = v.args; found = v.found; σ = v.σ; general = v.general; peak = v.peak; left = v.left; right = v.right; qualifies = v.qualifies };
}

pub pair_more : (parts : SigParts) (equations more : List Equation) (x : NamedPair) → IsPair parts equations x → IsPair parts (equations ++ more) x
pair_more parts equations more x h = overlaps_by parts equations (equations ++ more) x h
    (numbered_more equations more x.name.outer h.overlaps.outer h.overlaps.outer_is) (numbered_more equations more x.name.inner h.overlaps.inner h.overlaps.inner_is)

pair_fewer : (parts : SigParts) (equations more : List Equation) (x : NamedPair) → max x.name.outer x.name.inner ≤ length equations → IsPair parts (equations ++ more) x → IsPair parts equations x
pair_fewer parts equations more x w h = overlaps_by parts (equations ++ more) equations x h
    (numbered_fewer equations more x.name.outer h.overlaps.outer (omega (arith, w)) h.overlaps.outer_is) (numbered_fewer equations more x.name.inner h.overlaps.inner (omega (arith, w)) h.overlaps.inner_is)

-- what stands before a pair has no greater number
before_within : (x y : NamedPair) → PairBefore x y → max x.name.outer x.name.inner ≤ max y.name.outer y.name.inner
before_within x y (inl h) = omega arith
before_within x y (inr h) = let e = h.0 in omega (arith, e)

-- an item stays the item of its number
pub item_more : (parts : SigParts) (equations more : List Equation) (n : ℕ) (x : NamedPair) → IsItem parts equations n x → IsItem parts (equations ++ more) n x
item_more parts equations more n x h = record {
  is = pair_more parts equations more x h.is;
  before = h.before;
  count = h.count;
  all_before = record {
    rising = h.all_before.rising;
    exact = λ z. (
      (λ at. let p = (h.all_before.exact z).0 at in (pair_more parts equations more z p.0, p.1)),
      (λ p. (h.all_before.exact z).1 (
        pair_fewer parts equations more z
            (let a = before_within z x p.1 in let b = within parts equations x h.is in omega (arith, a, b)) p.0,
        p.1,
      )),
    );
  };
}
