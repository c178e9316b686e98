-- Where all schemas are spread, the lists of schemas are, weight by weight, exactly the schemas of the universe, rising in the order K.
use Rattle.std.proofs.Common.{◌≡◌, ℕ, zero, suc, ◌+◌, ◌<◌, ◌≤◌, ◌⊎◌, inl, inr, Bool, true, false, ◌&&◌, if◌then◌else◌, Some, IsTrue, List, [], ◌∷◌, ◌++◌, length, map, slice_index_or, arith, refl, sym, ap, ap₂, ◌∙◌, subst}
use Rattle.std.proofs.Math.Nat.{eq-or-lt_of_le}
use Rattle.std.proofs.lemmas.Bool.{ltb-true, lt-ltb, cases_lt}
use Rattle.std.proofs.lemmas.List.{get_or_past, get_or_push, get_or_append_left, length_push}
use Rattle.law_sig.specs.Lists.{In, Each, Rising}
use Rattle.law_sig.specs.Lists.In.{here, there}
use Rattle.law_sig.specs.Trees.{schema_of}
use Rattle.law_sig.specs.Signature.{args_of, vars_at, sort_of}
use Rattle.law_sig.specs.Tests.{weight, is_explored, is_bounded}
use Rattle.law_sig.specs.WellFormed.{IsWellFormed}
use Rattle.law_sig.specs.declared.tree.SortId.{SortId}
use Rattle.law_sig.specs.declared.tree.Tree.{Tree}
use Rattle.law_sig.specs.declared.tree.Tree.TheVariants.{Var, App}
use Rattle.law_sig.specs.declared.tree.Tree.TheViews.{out-Tree}
use Rattle.law_sig.specs.declared.parts.SigParts.{SigParts}
use Rattle.law_laws.specs.Orders.{WeighsSomething}
use Rattle.law_laws.proofs.Descents.{weighs_something, rank_extent}
use Rattle.law_laws.proofs.ListFacts.{each_of, of_each, in_none}
use Rattle.law_laws.proofs.Renaming.{each_true, all_true}
use Rattle.law_laws.proofs.TreeFacts.{tree_cases, same_var, same_app, schema-Var, schema-App, bounded-Var, bounded-App}
use Rattle.law_laws.proofs.Sorts.{HaveSorts, both_true, same_sort_is, same_sort_itself, sorted_app, sorted_var, var_sorted}
use Rattle.std.specs.List.{list_all}
use Rattle.law_listing.specs.Listing.{heads_sort, of_sort, of_weight, level, levels_to}
use Rattle.law_listing.specs.Columns.{IsBelow, IsOver, AreColumns}
use Rattle.law_listing.specs.Columns.IsOver.{variable, application}
use Rattle.law_listing.proofs.SortFacts.{head_sorted}
use Rattle.law_listing.proofs.Applications.{over_schema}
use Rattle.law_listing.proofs.Considered.{in_kept, kept_first, kept_rising, considered_sound, considered_complete, considered_rising}

-- a term of the universe, but for its weight, that is its own schema and weighs so much
pub record IsSchema (parts : SigParts) (k : ℕ) (t : Tree) : Type 0 where
  pub sort : SortId
  pub sorted : sort_of parts t ≡ Some sort
  pub bounded : IsTrue (is_bounded parts t)
  pub flat : schema_of t ≡ t
  pub weighs : weight parts t ≡ k

-- exactly the schemas of a weight
pub record IsLevel (parts : SigParts) (k : ℕ) (ts : List Tree) : Type 0 where
  pub rising : Rising (IsBelow parts) ts
  pub sound : (t : Tree) → In t ts → IsSchema parts k t
  pub complete : (t : Tree) → IsSchema parts k t → In t ts

pub record AreLevels (parts : SigParts) (n : ℕ) (levels : List (List Tree)) : Type 0 where
  pub long : length levels ≡ n + 1
  pub each : (k : ℕ) → k ≤ n → IsLevel parts k (slice_index_or levels k [])

-- Of one sort

kept_rest : (b : Bool) (x : Tree) (rest : List Tree) {t : Tree} → In t rest → In t (if b then x ∷ rest else rest)
kept_rest true x rest p = there p
kept_rest false x rest p = p

in_of_sort : (parts : SigParts) (sort : SortId) (ts : List Tree) {t : Tree} → In t (of_sort parts sort ts)
    → In t ts × (heads_sort parts sort (out-Tree t) ≡ true)
in_of_sort parts sort [] at = elim at [ ]
in_of_sort parts sort (x ∷ ts) {t} at = elim (in_kept (heads_sort parts sort (out-Tree x)) x (of_sort parts sort ts) at) [
  | inl h ↦ (subst (λ y. In y (x ∷ ts)) (sym h.0) here, ap (λ y. heads_sort parts sort (out-Tree y)) h.0 ∙ h.1)
  | inr h ↦ let (p, e) = in_of_sort parts sort ts h in (there p, e)
]

of_sort_in : (parts : SigParts) (sort : SortId) {t : Tree} {ts : List Tree} → In t ts → heads_sort parts sort (out-Tree t) ≡ true → In t (of_sort parts sort ts)
of_sort_in parts sort {t} here e = kept_first (heads_sort parts sort (out-Tree t)) t _ e
of_sort_in parts sort (there p) e = kept_rest _ _ _ (of_sort_in parts sort p e)

of_sort_rising : (R : Tree → Tree → Type 0) (parts : SigParts) (sort : SortId) (ts : List Tree) → Rising R ts → Rising R (of_sort parts sort ts)
of_sort_rising R parts sort [] h = tt
of_sort_rising R parts sort (t ∷ ts) h = kept_rising R (heads_sort parts sort (out-Tree t)) t (of_sort parts sort ts)
    (each_of (R t) (of_sort parts sort ts) (λ y at. of_each (R t) (in_of_sort parts sort ts at).0 h.0))
    (of_sort_rising R parts sort ts h.1)

-- All are spread

abbrev IsAny : SigParts → Tree → Type 0
IsAny parts t = IsSchema parts (weight parts t) t

-- what is considered over all schemas is one
any_over : (parts : SigParts) (t : Tree) → IsOver parts (IsAny parts) t → IsAny parts t
any_over parts t (variable sort declared some) = record {
  sort = sort;
  sorted = var_sorted parts sort 0 declared;
  bounded = bounded-Var parts sort 0 ∙ lt-ltb 0 (vars_at parts sort) (omega arith);
  flat = schema-Var sort 0;
  weighs = refl;
}
any_over parts t (application f cs sort explored each sorted) = record {
  sort = sort;
  sorted = sorted;
  bounded = bounded-App parts f cs ∙ both explored (all_true (is_bounded parts) cs (bounded cs each));
  flat = over_schema parts (IsAny parts) (App f cs) (λ c is. is.flat) (application f cs sort explored each sorted);
  weighs = refl;
}
  where
    both : {a b : Bool} → a ≡ true → b ≡ true → (a && b) ≡ true
    both e k = ap₂ ◌&&◌ e k

    bounded : (cs : List Tree) → Each (IsAny parts) cs → Each (λ t. is_bounded parts t ≡ true) cs
    bounded [] h = tt
    bounded (c ∷ cs) h = (h.0.bounded, bounded cs h.1)

-- and each of them is considered
over_any : (parts : SigParts) (t : Tree) → IsAny parts t → IsOver parts (IsAny parts) t
over_any parts = tree_cases (λ t. IsAny parts t → IsOver parts (IsAny parts) t)
    (λ sort index s.
    let (same, zero_is) = same_var sort sort 0 index (sym (schema-Var sort index) ∙ s.flat) in
    let (declared, is) = sorted_var parts sort index s.sort s.sorted in
    let less = ltb-true index (vars_at parts sort) (sym (bounded-Var parts sort index) ∙ s.bounded) in
    subst (λ i. IsOver parts (IsAny parts) (Var sort i)) zero_is (variable sort declared (omega arith)))
    (λ f args s.
    let a = sorted_app parts f args s.sort s.sorted in
    let (explored, bounded) = both_true (is_explored parts f) (list_all (λ inside. inside) (map (is_bounded parts) args)) (sym (bounded-App parts f args) ∙ s.bounded) in
    let (same, flat) = same_app f f (map schema_of args) args (sym (schema-App f args) ∙ s.flat) in
    application f args s.sort explored (all args (args_of a.symbol) a.sorts (each_true (is_bounded parts) args bounded) flat) s.sorted)
  where
    all : (ts : List Tree) (ss : List SortId) → HaveSorts parts ts ss → Each (λ t. is_bounded parts t ≡ true) ts → map schema_of ts ≡ ts → Each (IsAny parts) ts
    all [] ss sorts bounded flat = tt
    all (t ∷ ts) [] sorts bounded flat = absurd sorts
    all (t ∷ ts) (s ∷ ss) sorts bounded flat = (
      record { sort = s; sorted = sorts.0; bounded = bounded.0; flat = cc; weighs = refl },
      all ts ss sorts.1 bounded.1 cc,
    )

weighing_any : (parts : SigParts) (k : ℕ) (t : Tree) → IsAny parts t → weight parts t ≡ k → IsSchema parts k t
weighing_any parts k t a e = subst (λ n. IsSchema parts n t) e a

any_weighing : (parts : SigParts) (k : ℕ) (t : Tree) → IsSchema parts k t → IsAny parts t
any_weighing parts k t s = subst (λ n. IsSchema parts n t) (sym s.weighs) s

module _ (parts : SigParts) (n : ℕ) (levels : List (List Tree)) (are : AreLevels parts n levels) where
  -- the list of a weight, or none where it is past all lists
  one_list : (k : ℕ) → (k < n + 1) ⊎ (slice_index_or levels k [] ≡ [])
  one_list k = elim (cases_lt k (n + 1)) [
    | inl within ↦ inl within
    | inr above ↦ let long = are.long in let past : length levels ≤ k = omega arith in inr (get_or_past levels k [] past)
  ]

  columns_are : AreColumns parts (IsAny parts) (n + 1) (of_weight parts levels)
  columns_are = record {
    sound = λ k sort t at. let (p, headed) = in_of_sort parts sort (slice_index_or levels k []) at in sound k sort t p headed (one_list k);
    full = λ k sort t less declared any weighs sorted.
        of_sort_in parts sort ((are.each k (omega arith)).complete t (weighing_any parts k t any weighs)) (head_sorted parts sort sort t sorted ∙ same_sort_itself sort);
    rising = λ k sort. of_sort_rising (IsBelow parts) parts sort (slice_index_or levels k []) (rising k (one_list k));
  }
    where
      sound : (k : ℕ) (sort : SortId) (t : Tree) → In t (slice_index_or levels k []) → heads_sort parts sort (out-Tree t) ≡ true → (k < n + 1) ⊎ (slice_index_or levels k [] ≡ [])
          → IsAny parts t × (weight parts t ≡ k) × (sort_of parts t ≡ Some sort)
      sound k sort t p headed (inr none) = in_none (subst (In t) none p)
      sound k sort t p headed (inl within) =
          let s = (are.each k (omega arith)).sound t p in
          (any_weighing parts k t s, s.weighs, s.sorted ∙ ap Some (same_sort_is s.sort sort (sym (head_sorted parts s.sort sort t s.sorted) ∙ headed)))

      rising : (k : ℕ) → (k < n + 1) ⊎ (slice_index_or levels k [] ≡ []) → Rising (IsBelow parts) (slice_index_or levels k [])
      rising k (inl within) = (are.each k (omega arith)).rising
      rising k (inr none) = subst (Rising (IsBelow parts)) (sym none) tt

  level_is : IsWellFormed parts → IsLevel parts (suc n) (level parts levels (suc n))
  level_is well = record {
    rising = considered_rising parts (IsAny parts) (n + 1) (of_weight parts levels) well columns_are (suc n) (omega arith);
    sound = λ t at.
        let (over, weighs) = considered_sound parts (IsAny parts) (n + 1) (of_weight parts levels) well columns_are (suc n) (omega arith) t at in
        weighing_any parts (suc n) t (any_over parts t over) weighs;
    complete = λ t s.
        considered_complete parts (IsAny parts) (n + 1) (of_weight parts levels) well columns_are (suc n) (omega arith) t (over_any parts t (any_weighing parts (suc n) t s)) s.weighs;
  }

-- All levels

none_weighs_nothing : (parts : SigParts) → WeighsSomething parts → (t : Tree) → IsSchema parts 0 t → In t []
none_weighs_nothing parts weighs t s = let e = rank_extent parts weighs t in let w = s.weighs in absurd (omega arith)

more_levels : (parts : SigParts) (n : ℕ) (levels : List (List Tree)) (next : List Tree) → AreLevels parts n levels → IsLevel parts (suc n) next
    → AreLevels parts (suc n) (levels ++ next ∷ [])
more_levels parts n levels next are is = record {
  long = let e = are.long in length_push levels next ∙ omega arith;
  each = λ k within. by k (eq-or-lt_of_le within);
}
  where
    by : (k : ℕ) → (k ≡ suc n) ⊎ (k < suc n) → IsLevel parts k (slice_index_or (levels ++ next ∷ []) k [])
    by k (inl e) = let long = are.long in let at : length levels ≡ k = omega arith in
        subst (IsLevel parts k) (sym (get_or_push levels next [] k at)) (subst (λ j. IsLevel parts j next) (sym e) is)
    by k (inr l) = let long = are.long in
        subst (IsLevel parts k) (sym (get_or_append_left levels (next ∷ []) [] k (omega arith))) (are.each k (omega arith))

pub levels_are : (parts : SigParts) → IsWellFormed parts → (n : ℕ) → AreLevels parts n (levels_to parts n)
unfolding levels_to
levels_are parts well zero = record {
  long = refl;
  each = λ k within. let e : 0 ≡ k = omega arith in
      subst (λ j. IsLevel parts j (slice_index_or ([] ∷ []) j [])) e (record { rising = tt; sound = λ t at. elim at [ ]; complete = none_weighs_nothing parts (weighs_something parts well) });
}
levels_are parts well (suc n) =
    more_levels parts n (levels_to parts n) (level parts (levels_to parts n) (suc n)) (levels_are parts well n)
    (level_is parts n (levels_to parts n) (levels_are parts well n) well)
