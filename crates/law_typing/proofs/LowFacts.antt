-- Which sorts are low: names that aren't sorts, one height more, and heights from which on nothing changes.
use Rattle.std.proofs.Common.{rules, ◌≡◌, ℕ, zero, suc, ◌+◌, ◌<◌, ◌≤◌, length, Bool, true, false, not, ◌||◌, nat_lt, refl, sym, ap, ◌∙◌, arith}
use Rattle.std.specs.List.{list_any}
use Rattle.law_sig.specs.WellFormed.{makes_from}
use Rattle.law_sig.specs.declared.tree.SortId.{SortId}
use Rattle.law_typing.specs.Declarations.{is_low}
use Rattle.law_typing.specs.declared.whole.Whole.{Whole}

-- a sort that is declared, and one that isn't
pub below : (a c : ℕ) → a < c → nat_lt a c ≡ true
below a c h = search rules

not_below : (a c : ℕ) → c ≤ a → nat_lt a c ≡ false
not_below a c h = search rules

-- where the height is one more
pub low_next : (text : Whole) (height : ℕ) (sort : SortId) → sort.0 < length text.sorts
    → is_low text (height + 1) sort ≡ list_any (makes_from (is_low text height) sort) text.symbols
unfolding is_low
low_next text height sort within = ap (λ n. is_low text n sort) next
    ∙ ap (λ b. not b || list_any (makes_from (is_low text height) sort) text.symbols) (below sort.0 (length text.sorts) within)
  where
    next : height + 1 ≡ suc height
    next = omega arith

-- a name that isn't a sort
pub unknown_low : (text : Whole) (height : ℕ) (sort : SortId) → length text.sorts ≤ sort.0 → nat_lt 0 height ≡ is_low text height sort
unfolding is_low
unknown_low text zero sort beyond = refl
unknown_low text (suc n) sort beyond = below zero (suc n) (omega arith)
    ∙ sym (ap (λ b. not b || list_any (makes_from (is_low text n) sort) text.symbols) (not_below sort.0 (length text.sorts) beyond))

abbrev pub SameAt : Whole → ℕ → ℕ → Type 0
SameAt text m n = (sort : SortId) → is_low text m sort ≡ is_low text n sort

-- the test for the next height, from the one before
low_suc : (text : Whole) (m n : ℕ) → SameAt text m n → SameAt text (suc m) (suc n)
unfolding is_low
low_suc text m n same sort =
    ap (λ (f : SortId → Bool). not (nat_lt sort.0 (length text.sorts)) || list_any (makes_from f sort) text.symbols) (λ i s. same s i)

-- a height that changes nothing is followed by none that does
pub later_same : (text : Whole) (n : ℕ) → SameAt text (suc n) n → (k : ℕ) → SameAt text (n + k) n
later_same text n still zero sort = ap (λ m. is_low text m sort) plain
  where
    plain : n + zero ≡ n
    plain = omega arith
later_same text n still (suc k) sort =
    ap (λ m. is_low text m sort) next ∙ low_suc text (n + k) n (later_same text n still k) sort ∙ still sort
  where
    next : n + suc k ≡ suc (n + k)
    next = omega arith
