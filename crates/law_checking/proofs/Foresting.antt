-- The trees of a certificate, one after another.
use Rattle.std.proofs.Common.{◌≡◌, ◌↔◌, ℕ, ◌+◌, ◌<◌, ◌≤◌, inl, inr, List, [], ◌∷◌, ◌++◌, ap, arith}
use Rattle.std.proofs.lemmas.Bool.{cases_lt}
use Rattle.law_sig.specs.Lists.{Each}
use Rattle.law_sig.specs.declared.tree.SortId.{SortId}
use Rattle.law_sig.specs.declared.parts.SigParts.{SigParts}
use Rattle.law_laws.proofs.ListFacts.{of_each, each_of, each_right, each_both}
use Rattle.law_valid.specs.declared.certificate.Entry.{Entry}
use Rattle.law_valid.specs.Stated.{stated, spread_at}
use Rattle.law_valid.specs.Trees.{HasSpread, IsEarlierSort}
use Rattle.law_sig.specs.Expected.{IsAbove, IsFirstAbove, IsSpent}
use Rattle.law_checking.specs.Planted.{IsOutside, IsBelow, IsNextSort}

sort_id : ℕ → SortId
sort_id n = record { 0 = n }

-- the sorts above all that are done are those from a number on
abbrev pub IsBound : List SortId → ℕ → Type 0
IsBound done from = (s : SortId) → IsAbove IsEarlierSort done s ↔ (from ≤ s.0)

pub no_bound : IsBound [] 0
no_bound s = (λ h. omega arith, λ h. tt)

pub bound_next : (done : List SortId) (from : ℕ) (sort : SortId) → IsBound done from → from ≤ sort.0 → IsBound (done ++ sort ∷ []) (sort.0 + 1)
bound_next done from sort bound above s = (
  λ h. let own = (each_right (λ y. IsEarlierSort y s) done (sort ∷ []) h).0 in omega arith,
  λ h. each_both (λ y. IsEarlierSort y s) done (sort ∷ []) ((bound s).1 (omega arith)) (omega arith, tt),
)

module _ (parts : SigParts) (all : List Entry) (done : List SortId) (from : ℕ) (bound : IsBound done from) where
  abbrev pub IsNext : SortId → Type 0
  IsNext sort = IsNextSort parts (stated spread_at all) from sort

  pub next_first : (sort : SortId) → IsNext sort → IsFirstAbove IsEarlierSort (HasSpread parts all) done sort
  unfolding sort_id
  next_first sort next = record {
    is = next.has;
    above = (bound sort).1 next.above;
    least = λ y h above.
        let lower : from ≤ y.0 = (bound y).0 above in
        let outside = of_each (IsOutside parts from sort.0) h.1 next.none y h.2 lower in
        elim (cases_lt y.0 (sort.0 + 1)) [
          | inl l ↦ elim (cases_lt y.0 sort.0) [
            | inl less ↦ absurd (outside less)
            | inr more ↦ let same : y.0 ≡ sort.0 = omega arith in inl (ap sort_id same)
          ]
          | inr l ↦ inr (omega arith)
        ];
  }

  pub first_next : (sort : SortId) → IsFirstAbove IsEarlierSort (HasSpread parts all) done sort → IsNext sort
  first_next sort first = record {
    above = (bound sort).0 first.above;
    has = first.is;
    none = each_of (IsOutside parts from sort.0) (stated spread_at all) (λ c i s e lower less.
        elim (first.least s (c, i, e) ((bound s).1 lower)) [
          | inl same ↦ let is : s.0 ≡ sort.0 = ap (λ (x : SortId). x.0) same in omega arith
          | inr more ↦ let h : sort.0 < s.0 = more in omega arith
        ]);
  }

  pub below_spent : Each (IsBelow parts from) (stated spread_at all) → IsSpent IsEarlierSort (HasSpread parts all) done
  below_spent below y h above = let less : y.0 < from = of_each (IsBelow parts from) h.1 below y h.2 in let more : from ≤ y.0 = (bound y).0 above in omega arith

  pub spent_below : IsSpent IsEarlierSort (HasSpread parts all) done → Each (IsBelow parts from) (stated spread_at all)
  spent_below spent = each_of (IsBelow parts from) (stated spread_at all) (λ c i s e. elim (cases_lt s.0 from) [
    | inl l ↦ l
    | inr l ↦ absurd (spent s (c, i, e) ((bound s).1 l))
  ])
