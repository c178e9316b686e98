-- The considered schemas stage by stage: the variables, then symbol by symbol, then the next weight.
use Rattle.std.proofs.Common.{◌≡◌, ℕ, zero, suc, ◌+◌, ◌<◌, ◌≤◌, ◌⊎◌, inl, inr, false, true≢false, List, [], ◌∷◌, length, IsTrue, ltb-true, lt-ltb, refl, sym, ap, ◌∙◌, subst, arith}
use Rattle.std.proofs.Math.Nat.{eq-or-lt_of_le}
use Rattle.std.proofs.lemmas.Bool.{cases_lt}
use Rattle.law_sig.specs.Lists.{In, Each}
use Rattle.law_sig.specs.Trees.{schema_of}
use Rattle.law_sig.specs.Signature.{is_declared_sort, vars_at, weight_at}
use Rattle.law_sig.specs.Tests.{weight, is_explored}
use Rattle.law_sig.specs.Order.{IsBefore}
use Rattle.law_sig.specs.WellFormed.{IsWellFormed}
use Rattle.law_sig.specs.declared.tree.SortId.{SortId}
use Rattle.law_sig.specs.declared.tree.SymId.{SymId}
use Rattle.law_sig.specs.declared.tree.Tree.{Tree}
use Rattle.law_sig.specs.declared.tree.Tree.TheVariants.{Var, App, outs-Var, outs-App}
use Rattle.law_sig.specs.declared.parts.SigParts.{SigParts}
use Rattle.law_sig.specs.Expected.{IsFirstAbove, IsSpent}
use Rattle.law_sig.specs.Schemas.{IsConsidered}
use Rattle.law_sig.specs.Schemas.IsConsidered.{variable, application}
use Rattle.law_laws.proofs.TreeFacts.{weight-Var, weight-App, schema-Var, same_var, var_no_app}
use Rattle.law_laws.proofs.ListFacts.{of_each}
use Rattle.law_laws.proofs.Descents.{weighs_something}
use Rattle.law_laws.proofs.Orders.{never_before_itself}
use Rattle.law_laws.proofs.Universe.{listed_in}
use Rattle.law_listing.specs.Stages.{kind, number, kind_in, number_in, AtStage, FromStage, Here, Onward, NoneUpTo, AreHeavier, IsFirstVar}
use Rattle.law_listing.proofs.Staging.{stage_split, stage_below, schemas_before, first_same, stage_found}
use Rattle.law_listing.proofs.Applications.{IsApplied, applied_at, considered_over, considered_schema}

-- every considered schema is at the first stage or a later one
pub all_stages : (parts : SigParts) (spreads : List Tree) → IsWellFormed parts → (y : Tree) → IsConsidered parts spreads y → FromStage parts 1 0 0 y
all_stages parts spreads formed y considered =
    let h = positive considered in
    by (eq-or-lt_of_le h) (zero_or (kind y))
  where
    positive : {y : Tree} → IsConsidered parts spreads y → 1 ≤ weight parts y
    positive (variable sort declared some) = let e = weight-Var parts sort 0 in omega arith
    positive (application f cs sort explored each sorted small) = let e = weight-App parts f cs in let g = weighs_something parts formed f in omega arith

    zero_or : (n : ℕ) → (0 ≡ n) ⊎ (0 < n)
    zero_or zero = inl refl
    zero_or (suc n) = inr (omega arith)

    by : (1 ≡ weight parts y) ⊎ (1 < weight parts y) → (0 ≡ kind y) ⊎ (0 < kind y) → FromStage parts 1 0 0 y
    by (inr l) d = inl l
    by (inl e) (inr l) = inr (e, inl l)
    by (inl e) (inl k) = inr (e, inr (k, omega arith))

-- Symbols

module _ (parts : SigParts) (spreads : List Tree) (w : ℕ) where
  applied : (f : SymId) (y : Tree) → Here parts (IsConsidered parts spreads) w 1 f.0 y → IsApplied parts (λ c. In c spreads) w f y
  applied f y is = applied_at parts (λ c. In c spreads) w f y (considered_over parts spreads y is.0) is.1

  -- none, where the symbol is too heavy or not explored
  pub none_too_heavy : (f : SymId) → w < weight_at parts f → IsSpent (IsBefore parts) (Here parts (IsConsidered parts spreads) w 1 f.0) []
  none_too_heavy f less y y_is above =
      let a = applied f y y_is in
      let e = weight-App parts f a.args in
      let d = a.weight_is in
      omega arith

  pub none_not_explored : (f : SymId) → is_explored parts f ≡ false → IsSpent (IsBefore parts) (Here parts (IsConsidered parts spreads) w 1 f.0) []
  none_not_explored f e y y_is above =
      let a = applied f y y_is in
      absurd (true≢false (sym a.explored ∙ e))

  -- From a symbol on

  pub one_symbol_more : (from n : ℕ) → NoneUpTo parts (IsConsidered parts spreads) w from n → IsSpent (IsBefore parts) (Here parts (IsConsidered parts spreads) w 1 n) [] → NoneUpTo parts (IsConsidered parts spreads) w from (suc n)
  one_symbol_more from n none spent y considered stage = by (stage_split parts w 1 n y (none y considered stage))
    where
      by : AtStage parts w 1 n y ⊎ FromStage parts w 1 (suc n) y → FromStage parts w 1 (suc n) y
      by (inl at) = absurd (spent y (considered, at) tt)
      by (inr later) = later

  pub later_stage : (from n : ℕ) (y : Tree) → from ≤ n → FromStage parts w 1 n y → FromStage parts w 1 from y
  later_stage from n y upto (inl lighter) = inl lighter
  later_stage from n y upto (inr (same, inl less)) = inr (same, inl less)
  later_stage from n y upto (inr (same, inr (alike, above))) = inr (same, inr (alike, omega arith))

  pub found_from_here : (from n : ℕ) (t : Tree) → Each (λ c. schema_of c ≡ c) spreads → from ≤ n → NoneUpTo parts (IsConsidered parts spreads) w from n
      → IsFirstAbove (IsBefore parts) (Here parts (IsConsidered parts spreads) w 1 n) [] t → IsFirstAbove (IsBefore parts) (Onward parts (IsConsidered parts spreads) w 1 from) [] t
  found_from_here from n t schemas upto none first =
      first_same (IsBefore parts) (Onward parts (IsConsidered parts spreads) w 1 n) (Onward parts (IsConsidered parts spreads) w 1 from) [] t
      (λ y y_is. (y_is.0, later_stage from n y upto y_is.1)) (λ y y_is. (y_is.0, none y y_is.0 y_is.1))
      (stage_found parts (IsConsidered parts spreads) (λ y considered. considered_schema parts spreads y schemas considered) w 1 n t first)

  pub none_from_here : IsWellFormed parts → (from n : ℕ) → length parts.symbols ≤ n → NoneUpTo parts (IsConsidered parts spreads) w from n → AreHeavier parts (IsConsidered parts spreads) w from
  none_from_here formed from n past none y considered stage = by considered (none y considered stage)
    where
      by : {y : Tree} → IsConsidered parts spreads y → FromStage parts w 1 n y → w < weight parts y
      by c (inl lighter) = lighter
      by (variable sort declared some) (inr (same, inl less)) =
          let e = ap kind_in (outs-Var sort 0) in omega arith
      by (variable sort declared some) (inr (same, inr (alike, above))) =
          let e = ap kind_in (outs-Var sort 0) in omega arith
      by (application f cs sort explored each sorted small) (inr (same, inl less)) =
          let e = ap kind_in (outs-App f cs) in omega arith
      by (application f cs sort explored each sorted small) (inr (same, inr (alike, above))) =
          let e = ap number_in (outs-App f cs) in
          let h = of_each (λ (g : SymId). g.0 < length parts.symbols) (listed_in f parts.settings.explored explored) formed.settings.explored_declared in
          omega arith

  -- The next weight

  -- heavier ones alone are left
  pub past_weight : 1 ≤ w → (from : ℕ) → AreHeavier parts (IsConsidered parts spreads) w from
      → (y : Tree) → Onward parts (IsConsidered parts spreads) w 1 from y → Onward parts (IsConsidered parts spreads) (w + 1) 1 0 y
  past_weight weighs from heavy y (considered, stage) = (considered, up considered (heavy y considered stage))
    where
      up : {y : Tree} → IsConsidered parts spreads y → w < weight parts y → FromStage parts (w + 1) 1 0 y
      up (variable sort declared some) less = let h = weight-Var parts sort 0 in absurd (omega arith)
      up (application f cs sort explored each sorted small) less =
          let upto : w + 1 ≤ weight parts (App f cs) = omega arith in
          by (eq-or-lt_of_le upto)
        where
          by : (w + 1 ≡ weight parts (App f cs)) ⊎ (w + 1 < weight parts (App f cs)) → FromStage parts (w + 1) 1 0 (App f cs)
          by (inl e) = inr (e, inr (sym (ap kind_in (outs-App f cs)), omega arith))
          by (inr l) = inl l

  pub onward_back : (from : ℕ) (y : Tree) → Onward parts (IsConsidered parts spreads) (w + 1) 1 0 y → Onward parts (IsConsidered parts spreads) w 1 from y
  onward_back from y (considered, inl l) = (considered, inl (omega arith))
  onward_back from y (considered, inr (e, rest)) = (considered, inl (omega arith))

  pub none_heavier : 1 ≤ w → (from : ℕ) → AreHeavier parts (IsConsidered parts spreads) w from → parts.settings.size ≤ w
      → IsSpent (IsBefore parts) (Onward parts (IsConsidered parts spreads) w 1 from) []
  none_heavier weighs from heavy past y y_is above = by y_is.0 (heavy y y_is.0 y_is.1)
    where
      by : {y : Tree} → IsConsidered parts spreads y → w < weight parts y → ⊥
      by (variable sort declared some) less = let h = weight-Var parts sort 0 in omega arith
      by (application f cs sort explored each sorted small) less = omega arith

-- Variables

module _ (parts : SigParts) (spreads : List Tree) (schemas : Each (λ t. schema_of t ≡ t) spreads) where
  abbrev Considered : Tree → Type 0
  Considered t = IsConsidered parts spreads t

  abbrev are_schemas : (t : Tree) → Considered t → schema_of t ≡ t
  are_schemas t h = considered_schema parts spreads t schemas h

  pub var_stage : (sort : SortId) → AtStage parts 1 0 sort.0 (Var sort 0)
  var_stage sort = record { weight_is = weight-Var parts sort 0; kind_is = ap kind_in (outs-Var sort 0); number_is = ap number_in (outs-Var sort 0) }

  same_sort_id : (s u : SortId) → s.0 ≡ u.0 → s ≡ u
  same_sort_id s u e = ap id e
    where
      id : ℕ → SortId
      id n = record { 0 = n }

  -- one variable at a stage
  one_var : (n : ℕ) (y : Tree) → Considered y → AtStage parts 1 0 n y → (sort : SortId) × (y ≡ Var sort 0) × (sort.0 ≡ n) × IsTrue (is_declared_sort parts sort) × (1 ≤ vars_at parts sort)
  one_var n y (variable sort declared some) at = (sort, refl, sym (ap number_in (outs-Var sort 0)) ∙ at.number_is, declared, some)
  one_var n y (application f cs sort explored each sorted small) at =
      let h : ◌≡◌ {A = ℕ} 1 0 = sym (ap kind_in (outs-App f cs)) ∙ at.kind_is in absurd (omega arith)

  pub first_var_is : (from : ℕ) (sort : SortId) → IsFirstVar parts from sort → IsFirstAbove (IsBefore parts) (Onward parts Considered 1 0 from) [] (Var sort 0)
  first_var_is from sort v = record {
    is = (variable sort (lt-ltb sort.0 (length parts.sort_names) v.declared) v.some, inr (sym (var_stage sort).weight_is, inr (sym (var_stage sort).kind_is, at_number)));
    above = tt;
    least = λ y y_is above. by y y_is.0 (later y y_is.0 y_is.1);
  }
    where
      at_number : from ≤ number (Var sort 0)
      at_number = let h = (var_stage sort).number_is in let k = v.later in omega arith

      later : (y : Tree) → Considered y → FromStage parts 1 0 from y → FromStage parts 1 0 sort.0 y
      later y considered (inl lighter) = inl lighter
      later y considered (inr (same, inl less)) = inr (same, inl less)
      later y (variable s declared some) (inr (same, inr (alike, upto))) =
          let e = ap number_in (outs-Var s 0) in
          inr (same, inr (alike, not_before (cases_lt s.0 sort.0)))
        where
          not_before : (s.0 < sort.0) ⊎ (sort.0 ≤ s.0) → sort.0 ≤ number (Var s 0)
          not_before (inl less) = let e = ap number_in (outs-Var s 0) in let z = v.first s.0 (omega arith) less in absurd (omega arith)
          not_before (inr l) = let e = ap number_in (outs-Var s 0) in omega arith
      later y (application f cs s explored each sorted small) (inr (same, inr (alike, upto))) =
          let h = ap kind_in (outs-App f cs) in absurd (omega arith)

      by : (y : Tree) → Considered y → FromStage parts 1 0 sort.0 y → (y ≡ Var sort 0) ⊎ IsBefore parts (Var sort 0) y
      by y considered stage = elim (stage_split parts 1 0 sort.0 y stage) [
        | inl at ↦ let (s, is, same, d, some) = one_var sort.0 y considered at in inl (is ∙ ap (λ z. Var z 0) (same_sort_id s sort same))
        | inr after ↦ inr (schemas_before parts (Var sort 0) y (schema-Var sort 0) (are_schemas y considered) (stage_below parts 1 0 sort.0 (Var sort 0) y (var_stage sort) after))
      ]

  -- where no sort from this one on has variables, applications are left
  pub no_vars : (from : ℕ) → ((n : ℕ) → from ≤ n → n < length parts.sort_names → vars_at parts (record { 0 = n }) ≡ 0)
      → (y : Tree) → Onward parts Considered 1 0 from y → Onward parts Considered 1 1 0 y
  no_vars from none y (considered, inl lighter) = (considered, inl lighter)
  no_vars from none y (considered, inr (same, inl less)) = (considered, up considered same less)
    where
      up : {y : Tree} → Considered y → 1 ≡ weight parts y → 0 < kind y → FromStage parts 1 1 0 y
      up (variable s declared some) same less = let h = ap kind_in (outs-Var s 0) in absurd (omega arith)
      up (application f cs s explored each sorted small) same less = inr (same, inr (sym (ap kind_in (outs-App f cs)), omega arith))
  no_vars from none y (variable s declared some, inr (same, inr (alike, upto))) =
      let e = ap number_in (outs-Var s 0) in
      let d = ltb-true s.0 (length parts.sort_names) declared in
      let z = none s.0 (omega arith) d in absurd (omega arith)
  no_vars from none y (application f cs s explored each sorted small, inr (same, inr (alike, upto))) =
      let h = ap kind_in (outs-App f cs) in absurd (omega arith)

  pub all_later : (from : ℕ) (y : Tree) → Onward parts Considered 1 1 0 y → Onward parts Considered 1 0 from y
  all_later from y (considered, inl lighter) = (considered, inl lighter)
  all_later from y (considered, inr (same, inl less)) = (considered, inr (same, inl (omega arith)))
  all_later from y (considered, inr (same, inr (alike, upto))) = (considered, inr (same, inl (omega arith)))

  pub var_alone : (sort : SortId) (t : Tree) → t ≡ Var sort 0 → IsSpent (IsBefore parts) (Here parts Considered 1 0 sort.0) (t ∷ [])
  var_alone sort t e y y_is above =
      let (s, is, same, d, some) = one_var sort.0 y y_is.0 y_is.1 in
      never_before_itself parts t (subst (IsBefore parts t) (is ∙ ap (λ z. Var z 0) (same_sort_id s sort same) ∙ sym e) above.0)

  -- the number of a variable that is considered
  pub var_declared : (sort : SortId) (t : Tree) → t ≡ Var sort 0 → Considered t → sort.0 < length parts.sort_names
  var_declared sort t e (variable s declared some) =
      let h : s ≡ sort = (same_var s sort 0 0 e).0 in
      subst (λ z. z.0 < length parts.sort_names) h (ltb-true s.0 (length parts.sort_names) declared)
  var_declared sort t e (application f cs s explored each sorted small) = absurd (var_no_app sort 0 f cs (sym e))
