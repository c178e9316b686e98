-- Sums that stop at the last value of a machine number.
use Rattle.std.proofs.Common.{◌≡◌, ℕ, zero, suc, ◌+◌, ◌-◌, ◌^◌, ◌<◌, min, List, [], ◌∷◌, length, map, drop, slice_index_or, arith, sym, ap, ◌∙◌, subst}
use Rattle.law_sig.specs.Lists.{total}

-- counted so far, with the numbers that are left, is the whole, where all stop at 2^64 - 1
pub record Counted (count : ℕ) (left : List ℕ) (whole : ℕ) : Type 0 where
  pub fits : count < 2 ^ 64
  pub is_whole : min (count + total left) (2 ^ 64 - 1) ≡ min whole (2 ^ 64 - 1)

-- what is left begins with the next item's number
dropped : {A : Type 0} (f : A → ℕ) (items : List A) (at : ℕ) (item : A) → at < length items → item ≡ slice_index_or items at item
    → drop at (map f items) ≡ f item ∷ drop (at + 1) (map f items)
dropped f [] at item below is = absurd (omega arith)
dropped f (x ∷ xs) zero item below is = ap (λ y. f y ∷ map f xs) (sym is)
dropped f (x ∷ xs) (suc n) item below is =
    let next : suc n + 1 ≡ suc (n + 1) = omega arith in
    let lower : n < length xs = omega arith in
    dropped f xs n item lower is ∙ ap (λ k. f item ∷ drop k (f x ∷ map f xs)) (sym next)

count_next : (count one more whole next : ℕ) (left : List ℕ) → Counted count (more ∷ left) whole → one ≡ min more (2 ^ 64 - 1)
    → next ≡ min (count + one) (2 ^ 64 - 1) → Counted next left whole
count_next count one more whole next left c is_one is_next = record {
  fits = omega arith;
  is_whole = omega arith;
}

-- the next item is counted
pub counted_more : {A : Type 0} (f : A → ℕ) (items : List A) (at : ℕ) (item : A) (count one whole next : ℕ)
    → at < length items → item ≡ slice_index_or items at item → Counted count (drop at (map f items)) whole
    → one ≡ min (f item) (2 ^ 64 - 1) → next ≡ min (count + one) (2 ^ 64 - 1) → Counted next (drop (at + 1) (map f items)) whole
counted_more f items at item count one whole next below is c is_one is_next =
    count_next count one (f item) whole next (drop (at + 1) (map f items))
    (subst (λ l. Counted count l whole) (dropped f items at item below is) c) is_one is_next
