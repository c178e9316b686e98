-- The order of ranks: it is total, and every descent of ranks of bounded extent ends.
use Rattle.std.proofs.Common.{◌≡◌, ℕ, zero, suc, ◌+◌, ◌<◌, ◌≤◌, ◌⊎◌, inl, inr, Ordering, Less, Equal, Greater, nat_cmp, refl, sym, ap, ap₂, ◌∙◌, subst, arith}
use Rattle.std.specs.Cmp.{IsTotalOrder, strict}
use Rattle.std.specs.Ordering.{MatchOrdering, ordering_then}
use Rattle.std.proofs.lemmas.Cmp.{ranked}
use Rattle.law_sig.specs.Order.{Rank, num, pair, rank_cmp}

-- x stands before y
abbrev pub Below : Rank → Rank → Type 0
Below (num a) (num b) = a < b
Below (num a) (pair c d) = Unit {0}
Below (pair a b) (num c) = ⊥
Below (pair a b) (pair c d) = Below a c ⊎ ((a ≡ c) × Below b d)

-- x is y, or stands before it
abbrev pub Upto : Rank → Rank → Type 0
Upto x y = (x ≡ y) ⊎ Below x y

pub irreflexive : (x : Rank) → Below x x → ⊥
irreflexive (num a) h = omega arith
irreflexive (pair a b) (inl h) = irreflexive a h
irreflexive (pair a b) (inr h) = irreflexive b h.1

pub chain : (x y z : Rank) → Below x y → Below y z → Below x z
chain (num a) (num b) (num c) h k = omega arith
chain (num a) (num b) (pair c d) h k = tt
chain (num a) (pair b c) (num d) h k = absurd k
chain (num a) (pair b c) (pair d e) h k = tt
chain (pair a b) (num c) z h k = absurd h
chain (pair a b) (pair c d) (num e) h k = absurd k
chain (pair a b) (pair c d) (pair e f) (inl h) (inl k) = inl (chain a c e h k)
chain (pair a b) (pair c d) (pair e f) (inl h) (inr k) = inl (subst (Below a) k.0 h)
chain (pair a b) (pair c d) (pair e f) (inr h) (inl k) = inl (subst (λ w. Below w e) (sym h.0) k)
chain (pair a b) (pair c d) (pair e f) (inr h) (inr k) = inr (h.0 ∙ k.0, chain b d f h.1 k.1)

pub upto_chain : (x y z : Rank) → Upto x y → Upto y z → Upto x z
upto_chain x y z (inl e) (inl k) = inl (e ∙ k)
upto_chain x y z (inl e) (inr k) = inr (subst (λ w. Below w z) (sym e) k)
upto_chain x y z (inr h) (inl k) = inr (subst (Below x) k h)
upto_chain x y z (inr h) (inr k) = inr (chain x y z h k)

-- what an answer says
numbers : (a b : ℕ) (o : Ordering) → MatchOrdering o (a < b) (a ≡ b) (b < a) → MatchOrdering o (Below (num a) (num b)) (num a ≡ num b) (Below (num b) (num a))
numbers a b Less h = h
numbers a b Equal h = ap num h
numbers a b Greater h = h

pairs : (a b c d : Rank) (o p : Ordering) → MatchOrdering o (Below a c) (a ≡ c) (Below c a) → MatchOrdering p (Below b d) (b ≡ d) (Below d b)
    → MatchOrdering (ordering_then o p) (Below (pair a b) (pair c d)) (pair a b ≡ pair c d) (Below (pair c d) (pair a b))
pairs a b c d Less p h k = inl h
pairs a b c d Equal Less h k = inr (h, k)
pairs a b c d Equal Equal h k = ap₂ pair h k
pairs a b c d Equal Greater h k = inr (sym h, k)
pairs a b c d Greater p h k = inl h

pub ranks : (x y : Rank) → MatchOrdering (rank_cmp x y) (Below x y) (x ≡ y) (Below y x)
ranks (num a) (num b) = numbers a b (nat_cmp a b) (ranked a b (nat_cmp a b) refl)
ranks (num a) (pair c d) = tt
ranks (pair a b) (num c) = tt
ranks (pair a b) (pair c d) = pairs a b c d (rank_cmp a c) (rank_cmp b d) (ranks a c) (ranks b d)

pub rank_cmp_total : IsTotalOrder rank_cmp
rank_cmp_total = strict Below irreflexive chain rank_cmp ranks

pub less_below : (x y : Rank) → rank_cmp x y ≡ Less → Below x y
less_below x y e = subst (λ o. MatchOrdering o (Below x y) (x ≡ y) (Below y x)) e (ranks x y)

pub equal_same : (x y : Rank) → rank_cmp x y ≡ Equal → x ≡ y
equal_same x y e = subst (λ o. MatchOrdering o (Below x y) (x ≡ y) (Below y x)) e (ranks x y)

pub below_less : (x y : Rank) → Below x y → rank_cmp x y ≡ Less
below_less x y h = by (rank_cmp x y) (ranks x y)
  where
    by : (o : Ordering) → MatchOrdering o (Below x y) (x ≡ y) (Below y x) → o ≡ Less
    by Less k = refl
    by Equal k = absurd (irreflexive x (subst (Below x) (sym k) h))
    by Greater k = absurd (irreflexive x (chain x y x h k))

-- any two ranks are the same, or one stands before the other
pub trichotomy : (x y : Rank) → Upto x y ⊎ Below y x
trichotomy x y = by (rank_cmp x y) (ranks x y)
  where
    by : (o : Ordering) → MatchOrdering o (Below x y) (x ≡ y) (Below y x) → Upto x y ⊎ Below y x
    by Less k = inl (inr k)
    by Equal k = inl (inl k)
    by Greater k = inr k

-- how many pairs a rank has
abbrev pub extent : Rank → ℕ
extent (num a) = 0
extent (pair a b) = suc (extent a + extent b)

-- what holds of a number where it holds of all smaller ones holds of all
pub nat_induct : (P : ℕ → Type 0) → ((n : ℕ) → ((k : ℕ) → k < n → P k) → P n) → (n : ℕ) → P n
nat_induct P spreads n = below (suc n) n (omega arith)
  where
    below : (bound n : ℕ) → n < bound → P n
    below zero n within = absurd (omega arith)
    below (suc bound) n within = spreads n (λ k less. below bound k (omega arith))

-- a claim that holds of a rank where it holds of all that stand before it, among the ranks of at most this extent
abbrev pub Spreads : (Rank → Type 0) → ℕ → Type 0
Spreads P n = (x : Rank) → extent x ≤ n → ((y : Rank) → extent y ≤ n → Below y x → P y) → P x

each_number : (P : Rank → Type 0) (n : ℕ) → Spreads P n → (a : ℕ) → P (num a)
each_number P n spreads = nat_induct (λ a. P (num a)) (λ a have. spreads (num a) (omega arith) (before a have))
  where
    before : (a : ℕ) → ((k : ℕ) → k < a → P (num k)) → (y : Rank) → extent y ≤ n → Below y (num a) → P y
    before a have (num b) small less = have b less
    before a have (pair b c) small less = absurd less

-- holds of each pair with this first part
abbrev Firsts : (Rank → Type 0) → ℕ → Rank → Type 0
Firsts P n x = (z : Rank) → extent x + extent z ≤ n → P (pair x z)

seconds : (P : Rank → Type 0) (n : ℕ) → Spreads P (suc n) → (x : Rank)
    → ((y : Rank) → extent y ≤ n → Below y x → Firsts P n y) → Spreads (λ z. extent x + extent z ≤ n → P (pair x z)) n
seconds P n spreads x have z z_small z_have fits = spreads (pair x z) (omega arith) before
  where
    before : (w : Rank) → extent w ≤ suc n → Below w (pair x z) → P w
    before (num m) small less = each_number P (suc n) spreads m
    before (pair c d) small (inl h) = have c (omega arith) h d (omega arith)
    before (pair c d) small (inr h) =
        let e : extent c ≡ extent x = ap extent h.0 in
        subst (λ w. P (pair w d)) (sym h.0) (z_have d (omega arith) h.1 (omega arith))

-- holds of all of them
pub induct : (P : Rank → Type 0) (n : ℕ) → Spreads P n → (x : Rank) → extent x ≤ n → P x
induct P n spreads (num a) small = each_number P n spreads a
induct P zero spreads (pair a b) small = absurd (omega arith)
induct P (suc n) spreads (pair a b) small = induct (Firsts P n) n
    (λ x x_small have y fits. induct (λ z. extent x + extent z ≤ n → P (pair x z)) n (seconds P n spreads x have) y (omega arith) fits) a (omega arith) b (omega arith)
