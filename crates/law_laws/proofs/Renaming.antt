-- Tests are closed under renaming the variables of a sort, and a flat test gives a term and its schema the same value.
use Rattle.std.proofs.Common.{◌≡◌, ℕ, suc, ◌+◌, ◌*◌, ◌/◌, ◌%◌, ◌<◌, ◌≤◌, Bool, true, ◌&&◌, take, ltb-true, IsSome, List, [], ◌∷◌, map, length, slice_index_or, option_map, option_and_then, sym, refl, ap, ap₂, ◌∙◌, subst, arith, zero-add}
use Rattle.std.proofs.Math.Nat.{mod-lt, mod-mod, mod-eq_of_lt, div-eq_of_lt, mul-add-div_right, mul-add-mod_self_right, div-lt_iff_lt-mul, mul-le-mul_right, add-zero}
use Rattle.std.specs.List.{list_all}
use Rattle.law_sig.specs.Lists.{Each, product}
use Rattle.law_sig.specs.Trees.{schema_of, substituted}
use Rattle.law_sig.specs.Signature.{vars_at, width_at}
use Rattle.law_sig.specs.Evaluate.{Made, ap as applied}
use Rattle.law_sig.specs.WellFormed.{IsBetween, IsWellFormed, vars_step}
use Rattle.law_sig.specs.Tests.{is_bounded, is_explored, per_variable, radices, variable_number, assignments, digit_in, digit, test_count, IsFlat, Pools, pool_value, value_at, all_present, val, Same, IsDefined}
use Rattle.law_sig.specs.Derive.{KeepsSorts}
use Rattle.law_sig.specs.declared.tree.SortId.{SortId}
use Rattle.law_sig.specs.declared.tree.SymId.{SymId}
use Rattle.law_sig.specs.declared.tree.Tree.{Tree}
use Rattle.law_sig.specs.declared.tree.Tree.TheVariants.{Var, App}
use Rattle.law_sig.specs.declared.parts.SigParts.{SigParts}
use Rattle.law_laws.specs.Renaming.{HasWidth, Renames, renamed, has_vars, IsRenamed}
use Rattle.law_laws.proofs.TreeFacts.{tree_induct, fold-Var, fold-App, schema-Var, schema-App, substituted-Var, substituted-App, bounded-Var, bounded-App, val-Var, val-App}
use Rattle.law_laws.proofs.ListFacts.{each_map}
use Rattle.law_laws.proofs.Descents.{at_any_place}
use Rattle.law_laws.proofs.Sorts.{both_true, var_sorted}
use Rattle.law_laws.proofs.Radix.{Fit, number, number_below, digit_of, at_variable, fits}

pub has_width : (parts : SigParts) → IsWellFormed parts → HasWidth parts
has_width parts well sort = at_any_place (λ n. 1 ≤ n) parts.settings.width sort.0 1
    (each_map (IsBetween 1 16) (λ n. 1 ≤ n) (λ n h. h.0) parts.settings.width well.settings.width.in_range) (omega arith)

-- Terms whose variables are below their sort's number

pub each_true : {A : Type 0} (g : A → Bool) (xs : List A) → list_all (λ x. x) (map g xs) ≡ true → Each (λ x. g x ≡ true) xs
each_true g [] e = tt
each_true g (x ∷ xs) e = let p = both_true (g x) (list_all (λ x. x) (map g xs)) e in (p.0, each_true g xs p.1)

pub all_true : {A : Type 0} (g : A → Bool) (xs : List A) → Each (λ x. g x ≡ true) xs → list_all (λ x. x) (map g xs) ≡ true
all_true g [] have = refl
all_true g (x ∷ xs) have = ap₂ ◌&&◌ have.0 (all_true g xs have.1)

pub vars-Var : (parts : SigParts) (s : SortId) (i : ℕ) → has_vars parts (Var s i) ≡ true → i < vars_at parts s
vars-Var parts s i e = ltb-true i (vars_at parts s) (sym (fold-Var Bool (vars_step parts) s i) ∙ e)

pub vars-App : (parts : SigParts) (f : SymId) (args : List Tree) → has_vars parts (App f args) ≡ true → Each (λ t. has_vars parts t ≡ true) args
vars-App parts f args e = each_true (has_vars parts) args (sym (fold-App Bool (vars_step parts) f args) ∙ e)

-- so are those of the universe
pub bounded_vars : (parts : SigParts) (t : Tree) → is_bounded parts t ≡ true → has_vars parts t ≡ true
bounded_vars parts = tree_induct (λ t. is_bounded parts t ≡ true → has_vars parts t ≡ true)
    (λ s i e. fold-Var Bool (vars_step parts) s i ∙ sym (bounded-Var parts s i) ∙ e)
    (λ f args have e. fold-App Bool (vars_step parts) f args ∙ all_true (has_vars parts) args
    (all args have (each_true (is_bounded parts) args (both_true (is_explored parts f) (list_all (λ x. x) (map (is_bounded parts) args)) (sym (bounded-App parts f args) ∙ e)).1)))
  where
    all : (ts : List Tree) → Each (λ t. is_bounded parts t ≡ true → has_vars parts t ≡ true) ts → Each (λ t. is_bounded parts t ≡ true) ts → Each (λ t. has_vars parts t ≡ true) ts
    all [] have h = tt
    all (t ∷ ts) have h = (have.0 h.0, all ts have.1 h.1)

-- The digits of a test

abbrev sort_number : ℕ → SortId
sort_number n = record { 0 = n }

pub radix_at : (parts : SigParts) (s : SortId) (i : ℕ) → i < vars_at parts s → slice_index_or (radices parts) (variable_number parts s i) 1 ≡ width_at parts s
radix_at parts s i h = at_variable parts.settings.vars 0 s.0 i (λ sort index. width_at parts (sort_number sort)) 1 h
    ∙ ap (λ n. width_at parts (sort_number n)) (zero-add s.0)

-- a digit is below its sort's width already
digit_within : (parts : SigParts) (test : ℕ) (s : SortId) (i : ℕ) → i < vars_at parts s → digit parts test s i % width_at parts s ≡ digit parts test s i
digit_within parts test s i h = ap (λ w. digit parts test s i % w) (sym (radix_at parts s i h))
    ∙ mod-mod (test % assignments parts / product (take (variable_number parts s i) (radices parts))) (slice_index_or (radices parts) (variable_number parts s i) 1)

module _ (parts : SigParts) (has : HasWidth parts) (r : SortId → ℕ → ℕ) (renames : Renames parts r) (test : ℕ) where
  -- the place that a variable is to read: the one that the variable which it becomes reads
  abbrev place : ℕ → ℕ → ℕ
  place s i = digit parts test (sort_number s) (r (sort_number s) i) % width_at parts (sort_number s)

  abbrev places : ℕ
  places = number (per_variable 0 parts.settings.vars place) (radices parts)

  -- the test at which each variable reads that place, in the same pool
  abbrev other : ℕ
  other = test / assignments parts * assignments parts + places

  places_fit : Fit (per_variable 0 parts.settings.vars place) (radices parts)
  places_fit = fits parts.settings.vars 0 place (λ sort index. width_at parts (sort_number sort))
      (λ s i. mod-lt (digit parts test (sort_number s) (r (sort_number s) i)) (has (sort_number s)))

  places_below : places < assignments parts
  places_below = number_below (per_variable 0 parts.settings.vars place) (radices parts) places_fit

  positive : 0 < assignments parts
  positive = let h = places_below in omega arith

  same_pool : other / assignments parts ≡ test / assignments parts
  same_pool = mul-add-div_right positive (test / assignments parts) places ∙ ap (λ n. test / assignments parts + n) (div-eq_of_lt places_below) ∙ add-zero (test / assignments parts)

  other_places : other % assignments parts ≡ places
  other_places = mul-add-mod_self_right (test / assignments parts) (assignments parts) places ∙ mod-eq_of_lt places_below

  digit_other : (s : SortId) (i : ℕ) → i < vars_at parts s → digit parts other s i ≡ digit parts test s (r s i)
  digit_other s i h = ap (digit_in (radices parts) (variable_number parts s i)) other_places
      ∙ digit_of (per_variable 0 parts.settings.vars place) (radices parts) places_fit (variable_number parts s i)
      ∙ at_variable parts.settings.vars 0 s.0 i place 0 h ∙ ap (λ n. place n i) (zero-add s.0)
      ∙ digit_within parts test s (r s i) (renames s i h)

  value_other : (pools : Pools) (s : SortId) (i : ℕ) → i < vars_at parts s → value_at parts pools test s (r s i) ≡ value_at parts pools other s i
  value_other pools s i h = ap₂ (λ pool place. pool_value pools pool s place) (sym same_pool) (sym (digit_other s i h))

  other_within : (pools : Pools) → test < test_count parts pools → other < test_count parts pools
  other_within pools h = below (test / assignments parts) (length pools) (assignments parts) places ((div-lt_iff_lt-mul positive).1 h) places_below
    where
      below : (q l a n : ℕ) → q < l → n < a → q * a + n < l * a
      below q l a n less low =
          let h : suc q * a ≤ l * a = mul-le-mul_right a less in
          omega arith

  value_renamed : (pools : Pools) (t : Tree) → has_vars parts t ≡ true → val parts pools test (substituted (renamed r) t) ≡ val parts pools other t
  value_renamed pools = tree_induct (λ t. has_vars parts t ≡ true → val parts pools test (substituted (renamed r) t) ≡ val parts pools other t)
      (λ s i e. ap (val parts pools test) (substituted-Var (renamed r) s i) ∙ val-Var parts pools test s (r s i)
      ∙ value_other pools s i (vars-Var parts s i e) ∙ sym (val-Var parts pools other s i))
      (λ f args have e. ap (val parts pools test) (substituted-App (renamed r) f args) ∙ val-App parts pools test f (map (substituted (renamed r)) args)
      ∙ ap (λ vs. option_and_then (λ values. option_map (λ (m : Made). m.value) (applied parts f values parts.settings.budget)) (all_present vs)) (all args have (vars-App parts f args e))
      ∙ sym (val-App parts pools other f args))
    where
      all : (ts : List Tree) → Each (λ t. has_vars parts t ≡ true → val parts pools test (substituted (renamed r) t) ≡ val parts pools other t) ts
          → Each (λ t. has_vars parts t ≡ true) ts → map (val parts pools test) (map (substituted (renamed r)) ts) ≡ map (val parts pools other) ts
      all [] have h = refl
      all (t ∷ ts) have h = ap₂ ◌∷◌ (have.0 h.0) (all ts have.1 h.1)

pub test_renamed : (parts : SigParts) (pools : Pools) → HasWidth parts → (r : SortId → ℕ → ℕ) → Renames parts r
    → (test : ℕ) → test < test_count parts pools → IsRenamed parts pools r test
test_renamed parts pools has r renames test within = record {
  other = other parts has r renames test;
  within = other_within parts has r renames test pools within;
  same = value_renamed parts has r renames test pools;
}

-- two terms with the same values have the same values renamed
pub same_renamed : (parts : SigParts) (pools : Pools) → HasWidth parts → (r : SortId → ℕ → ℕ) → Renames parts r
    → (s t : Tree) → has_vars parts s ≡ true → has_vars parts t ≡ true → Same parts pools s t
    → Same parts pools (substituted (renamed r) s) (substituted (renamed r) t)
same_renamed parts pools has r renames s t s_vars t_vars same test within =
    let m = test_renamed parts pools has r renames test within in
    m.same s s_vars ∙ same m.other m.within ∙ sym (m.same t t_vars)

-- a renamed term is defined where the term is
pub renamed_defined : (parts : SigParts) (pools : Pools) → HasWidth parts → (r : SortId → ℕ → ℕ) → Renames parts r
    → (t : Tree) → has_vars parts t ≡ true → IsDefined parts pools t → IsDefined parts pools (substituted (renamed r) t)
renamed_defined parts pools has r renames t t_vars defined test within =
    let m = test_renamed parts pools has r renames test within in
    subst IsSome (sym (m.same t t_vars)) (defined m.other m.within)

-- a renaming keeps sorts
pub renaming_keeps : (parts : SigParts) (r : SortId → ℕ → ℕ) → KeepsSorts parts (renamed r)
renaming_keeps parts r sort index declared = var_sorted parts sort (r sort index) declared

-- Flat tests

pub flat_value : (parts : SigParts) (pools : Pools) (test : ℕ) → IsFlat parts test
    → (t : Tree) → has_vars parts t ≡ true → val parts pools test (schema_of t) ≡ val parts pools test t
flat_value parts pools test flat = tree_induct (λ t. has_vars parts t ≡ true → val parts pools test (schema_of t) ≡ val parts pools test t)
    (λ s i e. ap (val parts pools test) (schema-Var s i) ∙ val-Var parts pools test s 0
    ∙ ap (λ place. pool_value pools (test / assignments parts) s place) (at_first s i (vars-Var parts s i e)) ∙ sym (val-Var parts pools test s i))
    (λ f args have e. ap (val parts pools test) (schema-App f args) ∙ val-App parts pools test f (map schema_of args)
    ∙ ap (λ vs. option_and_then (λ values. option_map (λ (m : Made). m.value) (applied parts f values parts.settings.budget)) (all_present vs)) (all args have (vars-App parts f args e))
    ∙ sym (val-App parts pools test f args))
  where
    at_first : (s : SortId) (i : ℕ) → i < vars_at parts s → digit parts test s 0 ≡ digit parts test s i
    at_first s i h = flat s 0 i (omega arith) h

    all : (ts : List Tree) → Each (λ t. has_vars parts t ≡ true → val parts pools test (schema_of t) ≡ val parts pools test t) ts
        → Each (λ t. has_vars parts t ≡ true) ts → map (val parts pools test) (map schema_of ts) ≡ map (val parts pools test) ts
    all [] have h = refl
    all (t ∷ ts) have h = ap₂ ◌∷◌ (have.0 h.0) (all ts have.1 h.1)
