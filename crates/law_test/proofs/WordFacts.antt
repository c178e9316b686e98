-- No two terms have the same word.
use Rattle.std.proofs.Common.{◌⊎◌, inl, inr, ◌≡◌, ℕ, zero, suc, ◌+◌, ◌*◌, ◌/◌, ◌%◌, ◌<◌, ◌≤◌, Bool, true, false, if◌then◌else◌, nat_lt, List, [], ◌∷◌, ◌++◌, length, map, refl, sym, ap, ap₂, ◌∙◌, append_assoc, arith}
use Rattle.std.proofs.lemmas.List.{length-map}
use Rattle.std.proofs.lemmas.Bool.Decides.{nat_tests}
use Rattle.law_sig.specs.Lists.{Each}
use Rattle.law_sig.specs.Trees.{joined}
use Rattle.law_sig.specs.declared.tree.SortId.{SortId}
use Rattle.law_sig.specs.declared.tree.SymId.{SymId}
use Rattle.law_sig.specs.declared.tree.Tree.{Tree}
use Rattle.law_sig.specs.declared.tree.Tree.TheVariants.{Var, App}
use Rattle.law_laws.proofs.TreeFacts.{tree_induct, tree_cases, fold-Var, fold-App}
use Rattle.law_test.specs.Words.{bytes_in, number_bytes, word, word_step}

-- Numbers

sides : (n : ℕ) → (n < 128) ⊎ (128 ≤ n)
sides n = by (nat_lt n 128) refl
  where
    by : (b : Bool) → nat_lt n 128 ≡ b → (n < 128) ⊎ (128 ≤ n)
    by true e = inl (grind (arith, nat_tests))
    by false e = inr (grind (arith, nat_tests))

last_byte : (more n : ℕ) → n < 128 → bytes_in more n ≡ n ∷ []
last_byte zero n small = refl
last_byte (suc more) n small =
    let b : nat_lt n 128 ≡ true = grind (arith, nat_tests) in
    ap (λ b. if b then n ∷ [] else (128 + n % 128) ∷ bytes_in more (n / 128)) b

next_byte : (more n : ℕ) → 128 ≤ n → bytes_in (suc more) n ≡ (128 + n % 128) ∷ bytes_in more (n / 128)
next_byte more n large =
    let b : nat_lt n 128 ≡ false = grind (arith, nat_tests) in
    ap (λ b. if b then n ∷ [] else (128 + n % 128) ∷ bytes_in more (n / 128)) b

-- more room changes nothing
same_in : (a b n : ℕ) → n ≤ a → n ≤ b → bytes_in a n ≡ bytes_in b n
same_in zero b n h k = sym (last_byte b n (omega arith))
same_in (suc a) zero n h k = last_byte (suc a) n (omega arith)
same_in (suc a) (suc b) n h k = by (same_in a b (n / 128)) (sides n)
  where
    by : (n / 128 ≤ a → n / 128 ≤ b → bytes_in a (n / 128) ≡ bytes_in b (n / 128)) → (n < 128) ⊎ (128 ≤ n) → bytes_in (suc a) n ≡ bytes_in (suc b) n
    by rec (inl small) = last_byte (suc a) n small ∙ sym (last_byte (suc b) n small)
    by rec (inr large) = next_byte a n large ∙ ap (λ l. (128 + n % 128) ∷ l) (rec (omega arith) (omega arith)) ∙ sym (next_byte b n large)

pub number_last : (n : ℕ) → n < 128 → number_bytes n ≡ n ∷ []
number_last n small = last_byte n n small

pub number_next : (n : ℕ) → 128 ≤ n → number_bytes n ≡ (128 + n % 128) ∷ number_bytes (n / 128)
number_next zero large = absurd (omega arith)
number_next (suc n) large = next_byte n (suc n) large ∙ ap (λ l. (128 + suc n % 128) ∷ l) (same_in n (suc n / 128) (suc n / 128) (omega arith) (omega arith))

-- one byte more is out
pub byte_pushed : (old new all : List ℕ) (rest byte : ℕ) → 128 ≤ rest → byte ≡ 128 + rest % 128 → new ≡ old ++ byte ∷ [] → old ++ number_bytes rest ≡ all → new ++ number_bytes (rest / 128) ≡ all
byte_pushed old new all rest byte large is grown e =
    ap (λ l. l ++ number_bytes (rest / 128)) grown ∙ append_assoc old (byte ∷ []) (number_bytes (rest / 128))
    ∙ ap (λ l. old ++ l) (ap (λ b. b ∷ number_bytes (rest / 128)) is ∙ sym (number_next rest large)) ∙ e

-- the bytes of a number end where the next ones begin
abbrev Ends_in : ℕ → Type 0
Ends_in a = (b n m : ℕ) → n ≤ a → m ≤ b → (r s : List ℕ) → bytes_in a n ++ r ≡ bytes_in b m ++ s → (n ≡ m) × (r ≡ s)

both_last : (a b n m : ℕ) → n < 128 → m < 128 → (r s : List ℕ) → bytes_in a n ++ r ≡ bytes_in b m ++ s → (n ≡ m) × (r ≡ s)
both_last a b n m x y r s e =
    let k : n ∷ r ≡ m ∷ s = ap (λ l. l ++ r) (sym (last_byte a n x)) ∙ e ∙ ap (λ l. l ++ s) (last_byte b m y) in
    (let p : n ≡ m = cc in p, let q : r ≡ s = cc in q)

last_next : (a b n m : ℕ) → n < 128 → 128 ≤ m → (r s : List ℕ) → bytes_in a n ++ r ≡ bytes_in (suc b) m ++ s → ⊥
last_next a b n m x y r s e =
    let k : n ∷ r ≡ (128 + m % 128) ∷ (bytes_in b (m / 128) ++ s) = ap (λ l. l ++ r) (sym (last_byte a n x)) ∙ e ∙ ap (λ l. l ++ s) (next_byte b m y) in
    let p : n ≡ 128 + m % 128 = cc in
    omega (arith, p)

both_next : (a b n m : ℕ) → 128 ≤ n → 128 ≤ m → ((r s : List ℕ) → bytes_in a (n / 128) ++ r ≡ bytes_in b (m / 128) ++ s → (n / 128 ≡ m / 128) × (r ≡ s))
    → (r s : List ℕ) → bytes_in (suc a) n ++ r ≡ bytes_in (suc b) m ++ s → (n ≡ m) × (r ≡ s)
both_next a b n m x y rec r s e =
    let k : (128 + n % 128) ∷ (bytes_in a (n / 128) ++ r) ≡ (128 + m % 128) ∷ (bytes_in b (m / 128) ++ s)
    = ap (λ l. l ++ r) (sym (next_byte a n x)) ∙ e ∙ ap (λ l. l ++ s) (next_byte b m y) in
    let low : 128 + n % 128 ≡ 128 + m % 128 = cc in
    let high = rec r s cc in
    (omega (arith, low, high.0), high.1)

numbers_end : (a : ℕ) → Ends_in a
numbers_end zero zero n m h k r s e = both_last zero zero n m (omega arith) (omega arith) r s e
numbers_end zero (suc b) n m h k r s e = elim (sides m) [
  | inl y ↦ both_last zero (suc b) n m (omega arith) y r s e
  | inr y ↦ absurd (last_next zero b n m (omega arith) y r s e)
]
numbers_end (suc a) zero n m h k r s e = elim (sides n) [
  | inl x ↦ both_last (suc a) zero n m x (omega arith) r s e
  | inr x ↦ absurd (last_next zero a m n (omega arith) x s r (sym e))
]
numbers_end (suc a) (suc b) n m h k r s e = by (numbers_end a) (sides n) (sides m)
  where
    by : Ends_in a → (n < 128) ⊎ (128 ≤ n) → (m < 128) ⊎ (128 ≤ m) → (n ≡ m) × (r ≡ s)
    by rec (inl x) (inl y) = both_last (suc a) (suc b) n m x y r s e
    by rec (inl x) (inr y) = absurd (last_next (suc a) b n m x y r s e)
    by rec (inr x) (inl y) = absurd (last_next (suc b) a m n y x s r (sym e))
    by rec (inr x) (inr y) = both_next a b n m x y (rec b (n / 128) (m / 128) (omega arith) (omega arith)) r s e

number_ends : (n m : ℕ) (r s : List ℕ) → number_bytes n ++ r ≡ number_bytes m ++ s → (n ≡ m) × (r ≡ s)
number_ends n m r s e = numbers_end n m n m (omega arith) (omega arith) r s e

-- Terms

word-Var : (s : SortId) (i : ℕ) → word (Var s i) ≡ number_bytes (2 * s.0) ++ number_bytes i
word-Var s i = fold-Var (List ℕ) word_step s i

word-App : (f : SymId) (args : List Tree) → word (App f args) ≡ number_bytes (2 * f.0 + 1) ++ (number_bytes (length args) ++ joined (map word args))
word-App f args = fold-App (List ℕ) word_step f args ∙ ap (λ n. number_bytes (2 * f.0 + 1) ++ (number_bytes n ++ joined (map word args))) (length-map args word)

-- the words with what stands behind them
Var_then : (s : SortId) (i : ℕ) (r : List ℕ) → word (Var s i) ++ r ≡ number_bytes (2 * s.0) ++ (number_bytes i ++ r)
Var_then s i r = ap (λ w. w ++ r) (word-Var s i) ∙ append_assoc (number_bytes (2 * s.0)) (number_bytes i) r

App_then : (f : SymId) (args : List Tree) (r : List ℕ) → word (App f args) ++ r ≡ number_bytes (2 * f.0 + 1) ++ (number_bytes (length args) ++ (joined (map word args) ++ r))
App_then f args r =
    ap (λ w. w ++ r) (word-App f args) ∙ append_assoc (number_bytes (2 * f.0 + 1)) (number_bytes (length args) ++ joined (map word args)) r
    ∙ ap (λ l. number_bytes (2 * f.0 + 1) ++ l) (append_assoc (number_bytes (length args)) (joined (map word args)) r)

-- a word ends where the next one begins
abbrev Ends : Tree → Type 0
Ends t = (u : Tree) (r s : List ℕ) → word t ++ r ≡ word u ++ s → (t ≡ u) × (r ≡ s)

all_end : (ts us : List Tree) → Each Ends ts → length ts ≡ length us → (r s : List ℕ) → joined (map word ts) ++ r ≡ joined (map word us) ++ s → (ts ≡ us) × (r ≡ s)
all_end [] [] ends long r s e = (refl, e)
all_end [] (u ∷ us) ends long r s e = cc
all_end (t ∷ ts) [] ends long r s e = cc
all_end (t ∷ ts) (u ∷ us) ends long r s e =
    let (first, rest) = ends.0 u (joined (map word ts) ++ r) (joined (map word us) ++ s)
    (sym (append_assoc (word t) (joined (map word ts)) r) ∙ e ∙ append_assoc (word u) (joined (map word us)) s) in
    let (others, after) = all_end ts us ends.1 (let k : length ts ≡ length us = cc in k) r s rest in
    (ap₂ ◌∷◌ first others, after)

sort_id : ℕ → SortId
sort_id n = record { 0 = n }

symbol_id : ℕ → SymId
symbol_id n = record { 0 = n }

variable_ends : (s : SortId) (i : ℕ) → Ends (Var s i)
unfolding sort_id
variable_ends s i = tree_cases (λ u. (r q : List ℕ) → word (Var s i) ++ r ≡ word u ++ q → (Var s i ≡ u) × (r ≡ q))
    (λ v j r q e.
    let sorts = number_ends (2 * s.0) (2 * v.0) (number_bytes i ++ r) (number_bytes j ++ q) (sym (Var_then s i r) ∙ e ∙ Var_then v j q) in
    let indices = number_ends i j r q sorts.1 in
    let same : s.0 ≡ v.0 = omega (arith, sorts.0) in
    (ap₂ Var (ap sort_id same) indices.0, indices.1))
    (λ g us r q e.
    let heads = number_ends (2 * s.0) (2 * g.0 + 1) (number_bytes i ++ r) (number_bytes (length us) ++ (joined (map word us) ++ q)) (sym (Var_then s i r) ∙ e ∙ App_then g us q) in
    absurd (omega (arith, heads.0)))

application_ends : (f : SymId) (ts : List Tree) → Each Ends ts → Ends (App f ts)
unfolding symbol_id
application_ends f ts ends = tree_cases (λ u. (r q : List ℕ) → word (App f ts) ++ r ≡ word u ++ q → (App f ts ≡ u) × (r ≡ q))
    (λ v j r q e.
    let heads = number_ends (2 * f.0 + 1) (2 * v.0) (number_bytes (length ts) ++ (joined (map word ts) ++ r)) (number_bytes j ++ q) (sym (App_then f ts r) ∙ e ∙ Var_then v j q) in
    absurd (omega (arith, heads.0)))
    (λ g us r q e.
    let heads = number_ends (2 * f.0 + 1) (2 * g.0 + 1) (number_bytes (length ts) ++ (joined (map word ts) ++ r)) (number_bytes (length us) ++ (joined (map word us) ++ q))
    (sym (App_then f ts r) ∙ e ∙ App_then g us q) in
    let same : f.0 ≡ g.0 = omega (arith, heads.0) in
    let long = number_ends (length ts) (length us) (joined (map word ts) ++ r) (joined (map word us) ++ q) heads.1 in
    let (args, after) = all_end ts us ends long.0 r q long.1 in
    (ap₂ App (ap symbol_id same) args, after))

pub word_same : (t u : Tree) → word t ≡ word u → t ≡ u
word_same t u e = (tree_induct Ends variable_ends application_ends t u [] [] (ap (λ w. w ++ []) e)).0
