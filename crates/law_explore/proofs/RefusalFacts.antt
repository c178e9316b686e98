-- When no question has an answer, and that there is one refusal.
use Rattle.std.proofs.Common.{◌≡◌, ℕ, ◌+◌, ◌<◌, ◌≤◌, ◌⊎◌, inl, inr, Bool, true≢false, lt-ltb, if◌then◌else◌, Option, Some, None, IsSome, List, length, slice_get, sym, refl, ap, ap₂, ◌∙◌, subst, arith}
use Rattle.std.proofs.lemmas.Bool.{cases_lt}
use Rattle.std.proofs.Math.Nat.{eq-or-lt_of_le}
use Rattle.law_sig.specs.Lists.{Each}
use Rattle.law_sig.specs.Trees.{node_count}
use Rattle.law_sig.specs.Tests.{Pools, InU, assignments, test_count, IsDefined}
use Rattle.law_sig.specs.Counts.{at_most, term_count}
use Rattle.law_sig.specs.declared.tree.SortId.{SortId}
use Rattle.law_sig.specs.declared.tree.Tree.{Tree}
use Rattle.law_sig.specs.declared.parts.Equation.{Equation}
use Rattle.law_sig.specs.declared.parts.SigParts.{SigParts}
use Rattle.law_laws.proofs.ListFacts.{of_each}
use Rattle.law_laws.proofs.Orders.{before_decided}
use Rattle.law_draws.specs.Draws.{pools_by}
use Rattle.law_draws.specs.Sizes.{AreSmall, IsFirstIn}
use Rattle.law_explore.specs.Refusals.{Refusal, OrElse, IsFirstAnswer, HasManyAssignments, HasManyTerms, HasLargeValue, HasSmallValues, Breaks, BreaksAt, HasBrokenBackground, LacksValue, HasLackingTerm, IsRefusal}
use Rattle.law_explore.specs.Refusals.Refusal.{ValueTooLarge, Over}
use Rattle.law_explore.specs.Refusals.Breaks.{left_over, right_over, differs}
use Rattle.law_sig.specs.Laws.{IsBackgroundTrue}
use Rattle.law_explore.specs.LawList.{OneRefusal, NoneWithin}
use Rattle.law_explore.proofs.Rising.{at_place}
use Rattle.law_explore.proofs.Breaking.{HoldsAll, agrees_not, each_got}
use Rattle.law_explore.proofs.LawFacts.{some_is}

-- Numbers with a limit

pub limit_kept : (limit n m : ℕ) (o : Option ℕ) → o ≡ at_most limit n → o ≡ Some m → n ≤ limit
limit_kept limit n m o e some = by (cases_lt limit n)
  where
    by : (limit < n) ⊎ (n ≤ limit) → n ≤ limit
    by (inl less) = let h : Some m ≡ None = sym some ∙ e ∙ ap (λ (b : Bool). if b then None else Some n) (lt-ltb limit n less) in cc
    by (inr more) = more

-- Questions without an answer

not_many_assignments : (parts : SigParts) → assignments parts ≤ 4096 → (r : Refusal) → HasManyAssignments parts r → ⊥
not_many_assignments parts few r h = let more = h.1 in omega arith

not_many_terms : (parts : SigParts) (terms : ℕ) → term_count parts ≤ terms → (r : Refusal) → HasManyTerms parts terms r → ⊥
not_many_terms parts terms few r h = let more = h.1 in omega arith

not_large : (parts : SigParts) → HasSmallValues parts → (r : Refusal) → HasLargeValue parts r → ⊥
not_large parts small r h =
    let first = h.3 in
    let (v, v_in, large) = first.first.large in
    let sorts = of_each (Each AreSmall) (at_place first.sorts (pools_by parts) h.0 first.there) small in
    let values = of_each AreSmall (at_place first.first.values first.sorts h.1.0 first.first.there) sorts in
    let bound : node_count v ≤ 4096 = of_each (λ v. node_count v ≤ 4096) v_in values in
    omega arith

not_broken : (parts : SigParts) → IsBackgroundTrue parts (pools_by parts) → (r : Refusal) → HasBrokenBackground parts (pools_by parts) r → ⊥
not_broken parts holds r h =
    let breaks = h.answer in
    agrees_not parts (h.at + 1) breaks.equation (of_each (HoldsAll parts) (at_place breaks.equation parts.settings.background h.at breaks.there) holds) r breaks.breaks

none_lacks : (parts : SigParts) (pools : Pools) (t : Tree) → IsDefined parts pools t → (r : Refusal) → LacksValue parts pools t r → ⊥
none_lacks parts pools t defined r lacks = absurd (true≢false (sym (subst IsSome lacks.lacks (defined lacks.test lacks.within))))

not_lacking : (parts : SigParts) → ((sort : SortId) (t : Tree) → InU parts sort t → IsDefined parts (pools_by parts) t) → (r : Refusal) → HasLackingTerm parts (pools_by parts) r → ⊥
not_lacking parts defined r h = none_lacks parts (pools_by parts) h.term (defined h.sort h.term h.bounded) r h.lacks

-- The first refusal, where it is that of each question in turn

pub refused_background : (parts : SigParts) (terms : ℕ) → assignments parts ≤ 4096 → term_count parts ≤ terms → HasSmallValues parts
    → (r : Refusal) → HasBrokenBackground parts (pools_by parts) r → IsRefusal parts terms r
refused_background parts terms few short small r h =
    inr (not_many_assignments parts few, inr (not_many_terms parts terms short, inr (not_large parts small, inl h)))

pub refused_term : (parts : SigParts) (terms : ℕ) → assignments parts ≤ 4096 → term_count parts ≤ terms → HasSmallValues parts → IsBackgroundTrue parts (pools_by parts)
    → (r : Refusal) → HasLackingTerm parts (pools_by parts) r → IsRefusal parts terms r
refused_term parts terms few short small holds r h =
    inr (not_many_assignments parts few, inr (not_many_terms parts terms short, inr (not_large parts small, inr (not_broken parts holds, h))))

-- no refusal where nothing refuses
neither : (P Q : Refusal → Type 0) → ((r : Refusal) → P r → ⊥) → ((r : Refusal) → Q r → ⊥) → (r : Refusal) → OrElse P Q r → ⊥
neither P Q p q r (inl h) = p r h
neither P Q p q r (inr h) = q r h.1

pub none_within : NoneWithin
none_within parts terms within =
    neither _ _ (not_many_assignments parts within.few_assignments)
    (neither _ _ (not_many_terms parts terms within.few_terms)
    (neither _ _ (not_large parts within.small)
    (neither _ _ (not_broken parts within.background)
    (not_lacking parts within.in_budget.terms))))

-- One refusal

abbrev IsOne : (Refusal → Type 0) → Type 0
IsOne P = (r q : Refusal) → P r → P q → r ≡ q

one_else : (P Q : Refusal → Type 0) → IsOne P → IsOne Q → IsOne (OrElse P Q)
one_else P Q p q r s (inl h) (inl k) = p r s h k
one_else P Q p q r s (inl h) (inr k) = absurd (k.0 r h)
one_else P Q p q r s (inr h) (inl k) = absurd (h.0 s k)
one_else P Q p q r s (inr h) (inr k) = q r s h.1 k.1

-- the places at which two things are first
same_place : (i j : ℕ) → (i < j → ⊥) → (j < i → ⊥) → i ≡ j
same_place i j not_less not_more = elim (cases_lt i j) [
  | inl less ↦ absurd (not_less less)
  | inr upto ↦ elim (eq-or-lt_of_le upto) [
    | inl same ↦ sym same
    | inr more ↦ absurd (not_more more)
  ]
]

one_first : (Answers : ℕ → Refusal → Type 0) (count : ℕ) → ((k : ℕ) → IsOne (Answers k)) → IsOne (IsFirstAnswer Answers count)
one_first Answers count one r q h k =
    let same = same_place h.at k.at (λ less. k.before h.at less r h.answer) (λ more. h.before k.at more q k.answer) in
    one k.at r q (subst (λ n. Answers n r) same h.answer) k.answer

one_break : (parts : SigParts) (pools : Pools) (number : ℕ) (e : Equation) (test : ℕ) → IsOne (Breaks parts pools number e test)
one_break parts pools number e test r q (left_over n) (left_over m) = refl
one_break parts pools number e test r q (left_over n) (right_over v is m) = cc
one_break parts pools number e test r q (left_over n) (differs v w is own other) = cc
one_break parts pools number e test r q (right_over v is n) (left_over m) = cc
one_break parts pools number e test r q (right_over v is n) (right_over w own m) = refl
one_break parts pools number e test r q (right_over v is n) (differs w x own left other) = cc
one_break parts pools number e test r q (differs v w is own other) (left_over m) = cc
one_break parts pools number e test r q (differs v w is own other) (right_over x left m) = cc
one_break parts pools number e test r q (differs v w is own other) (differs x y left right apart) = refl

one_at : (parts : SigParts) (pools : Pools) (at : ℕ) → IsOne (BreaksAt parts pools at)
one_at parts pools at r q h k =
    let same : h.equation ≡ k.equation = some_is (sym h.there ∙ k.there) in
    one_first (Breaks parts pools (at + 1) k.equation) (test_count parts pools) (one_break parts pools (at + 1) k.equation) r q
    (subst (λ e. IsFirstAnswer (Breaks parts pools (at + 1) e) (test_count parts pools) r) same h.breaks) k.breaks

one_lack : (parts : SigParts) (pools : Pools) (t : Tree) → IsOne (LacksValue parts pools t)
one_lack parts pools t r q h k =
    let same = same_place h.test k.test
    (λ less. true≢false (sym (subst IsSome h.lacks (k.before h.test less))))
    (λ more. true≢false (sym (subst IsSome k.lacks (h.before k.test more)))) in
    h.is ∙ ap (Over t) same ∙ sym k.is

one_term : (parts : SigParts) (pools : Pools) → IsOne (HasLackingTerm parts pools)
one_term parts pools r q h k = elim (before_decided parts h.term k.term) [
  | inl same ↦ one_lack parts pools k.term r q (subst (λ t. LacksValue parts pools t r) same h.lacks) k.lacks
  | inr (inl before) ↦ absurd (none_lacks parts pools h.term (k.before h.sort h.term h.bounded before) r h.lacks)
  | inr (inr after) ↦ absurd (none_lacks parts pools k.term (h.before k.sort k.term k.bounded after) q k.lacks)
]

large_in : (sorts : List (List Tree)) (sort : SortId) → IsFirstIn sorts sort → Each AreSmall sorts → ⊥
large_in sorts sort first small =
    let (v, v_in, large) = first.large in
    let bound : node_count v ≤ 4096 = of_each (λ v. node_count v ≤ 4096) v_in (of_each AreSmall (at_place first.values sorts sort.0 first.there) small) in
    omega arith

large_before : (sorts : List (List Tree)) (s u : SortId) → IsFirstIn sorts s → IsFirstIn sorts u → s.0 < u.0 → ⊥
large_before sorts s u h k less =
    let (v, v_in, large) = h.large in
    let bound : node_count v ≤ 4096 = of_each (λ v. node_count v ≤ 4096) v_in (each_got AreSmall sorts u.0 s.0 h.values k.before less h.there) in
    omega arith

sort_id : ℕ → SortId
sort_id n = record { 0 = n }

pub same_sort : (s u : SortId) → s.0 ≡ u.0 → s ≡ u
unfolding sort_id
same_sort s u e = ap sort_id e

one_large : (parts : SigParts) → IsOne (HasLargeValue parts)
one_large parts r q h k =
    let first = h.3 in
    let other = k.3 in
    let pools = pools_by parts in
    let pool : h.0 ≡ k.0 = same_place h.0 k.0
    (λ less. large_in first.sorts h.1 first.first (each_got (Each AreSmall) pools k.0 h.0 first.sorts other.before less first.there))
    (λ more. large_in other.sorts k.1 other.first (each_got (Each AreSmall) pools h.0 k.0 other.sorts first.before more other.there)) in
    let sorts : first.sorts ≡ other.sorts = some_is (sym first.there ∙ ap (slice_get pools) pool ∙ other.there) in
    let own : IsFirstIn other.sorts h.1 = subst (λ l. IsFirstIn l h.1) sorts first.first in
    let sort : h.1 ≡ k.1 = same_sort h.1 k.1 (same_place h.1.0 k.1.0 (large_before other.sorts h.1 k.1 own other.first) (large_before other.sorts k.1 h.1 other.first own)) in
    h.2 ∙ ap₂ ValueTooLarge pool sort ∙ sym k.2

pub one_refusal : OneRefusal
one_refusal parts terms =
    one_else _ _ (λ r q h k. h.0 ∙ sym k.0)
    (one_else _ _ (λ r q h k. h.0 ∙ sym k.0)
    (one_else _ _ (one_large parts)
    (one_else _ _ (one_first (BreaksAt parts (pools_by parts)) (length parts.settings.background) (one_at parts (pools_by parts)))
    (one_term parts (pools_by parts)))))
