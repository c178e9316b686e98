-- The numbers from 0, one after another.
use Rattle.std.proofs.Common.{◌≡◌, ℕ, ◌<◌, ◌+◌, ◌⊎◌, inl, inr, List, [], ◌∷◌, ◌++◌, length, slice_index, ap, sym, ◌∙◌, arith, length-append}
use Rattle.std.proofs.Math.ListN.{get_or-append}
use Rattle.std.proofs.Math.Seq.{get_or-append_seam}
use Rattle.law_sig.specs.Lists.{Each, Rising}
use Rattle.law_laws.proofs.ListFacts.{each_both, rising_both}
use Rattle.law_acceptance.specs.Telling.{IsCounting}

pub record AreNumbers (tests : List ℕ) (n : ℕ) : Type 0 where
  pub long : length tests ≡ n
  pub counting : IsCounting tests
  pub rising : Rising (λ k m. k < m) tests
  pub below : Each (λ k. k < n) tests

-- each of them is below a greater number too, and below the list of the last one
still_below : (tests : List ℕ) (n : ℕ) → Each (λ k. k < n) tests → Each (λ k. k < n + 1) tests
still_below [] n below = tt
still_below (t ∷ tests) n below = (omega arith, still_below tests n below.1)

across : (tests : List ℕ) (n : ℕ) → Each (λ k. k < n) tests → Each (λ k. Each (λ m. k < m) (n ∷ [])) tests
across [] n below = tt
across (t ∷ tests) n below = ((below.0, tt), across tests n below.1)

place : (k n : ℕ) → k < n + 1 → (k < n) ⊎ (k ≡ n)
place k n h = grind arith

pub one_more : (tests : List ℕ) (n : ℕ) → AreNumbers tests n → AreNumbers (tests ++ n ∷ []) (n + 1)
one_more tests n are = record {
  long = omega (arith, length-append tests (n ∷ []), are.long);
  counting = λ k h. at k (place k n (omega (arith, length-append tests (n ∷ []), are.long)));
  rising = rising_both (λ k m. k < m) tests (n ∷ []) are.rising (tt, tt) (across tests n are.below);
  below = each_both (λ k. k < n + 1) tests (n ∷ []) (still_below tests n are.below) (omega arith, tt);
}
  where
    at : (k : ℕ) → (k < n) ⊎ (k ≡ n) → slice_index (tests ++ n ∷ []) k ≡ k
    at k (inl h) = get_or-append tests (n ∷ []) 0 k (omega (arith, are.long)) ∙ are.counting k (omega (arith, are.long))
    at k (inr e) = ap (slice_index (tests ++ n ∷ [])) (e ∙ sym are.long) ∙ get_or-append_seam tests n [] 0 ∙ sym e
