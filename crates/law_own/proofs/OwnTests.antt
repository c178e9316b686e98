-- Own tests: what they are, and what they tell of terms.
use Rattle.std.proofs.Common.{◌≡◌, ℕ, zero, suc, ◌+◌, ◌/◌, ◌<◌, ◌≤◌, ◌⊎◌, inl, inr, ◌↔◌, Bool, true, false, Option, Some, None, IsSome, List, [], ◌∷◌, ◌++◌, map, take, slice_index_or, option_map, option_and_then, sym, refl, ap, ap₂, ◌∙◌, subst, arith, zero-add, add_assoc}
use Rattle.std.proofs.Math.Nat.{eq-or-lt_of_le}
use Rattle.law_sig.specs.Lists.{Each, total}
use Rattle.law_sig.specs.Signature.{vars_at, width_at}
use Rattle.law_sig.specs.Evaluate.{Made, ap as applied}
use Rattle.law_sig.specs.Tests.{first_of, per_variable, radices, variable_number, assignments, digit, test_count, IsFlat, Pools, pool_value, value_at, all_present, val, Agrees}
use Rattle.law_sig.specs.declared.tree.SortId.{SortId}
use Rattle.law_sig.specs.declared.tree.SymId.{SymId}
use Rattle.law_sig.specs.declared.tree.Tree.{Tree}
use Rattle.law_sig.specs.declared.tree.Tree.TheVariants.{Var, App}
use Rattle.law_sig.specs.declared.parts.SigParts.{SigParts}
use Rattle.law_laws.specs.Renaming.{HasWidth, has_vars}
use Rattle.law_laws.proofs.TreeFacts.{tree_induct, fold-Var, fold-App, val-Var, val-App}
use Rattle.law_laws.proofs.Renaming.{vars-Var, vars-App, each_true}
use Rattle.law_own.specs.Kept.{where_wanted, kept}
use Rattle.law_own.specs.Own.{VarSet, by_number, own, IsOwn, IsNextOwn, within_step, has_within, IsOwnOf, IsBySorts, IsToldBy, AgreeAt, AgreeAtOwn}
use Rattle.law_own.proofs.Keeping.{AreWide, kept_below, kept_again, kept_above, place_kept}

-- What stands for a variable

in_front : {A : Type 0} (n : ℕ) (g : ℕ → A) (rest : List A) (k : ℕ) (d : A) → k < n → slice_index_or (first_of n g ++ rest) k d ≡ g k
in_front zero g rest k d h = absurd (omega arith)
in_front (suc n) g rest zero d h = refl
in_front (suc n) g rest (suc k) d h = in_front n (λ i. g (suc i)) rest k d (omega arith)

one_later : (n k : ℕ) → suc n + k ≡ suc (n + k)
one_later n k = omega arith

behind : {A : Type 0} (n : ℕ) (g : ℕ → A) (rest : List A) (k : ℕ) (d : A) → slice_index_or (first_of n g ++ rest) (n + k) d ≡ slice_index_or rest k d
behind zero g rest k d = ap (λ i. slice_index_or rest i d) (zero-add k)
behind (suc n) g rest k d = ap (λ i. slice_index_or (first_of (suc n) g ++ rest) i d) (one_later n k) ∙ behind n (λ i. g (suc i)) rest k d

pub item_of_variable : {A : Type 0} (vars : List ℕ) (base sort index : ℕ) (f : ℕ → ℕ → A) (d : A) → index < slice_index_or vars sort 0
    → slice_index_or (per_variable base vars f) (total (take sort vars) + index) d ≡ f (base + sort) index
item_of_variable [] base sort index f d h = absurd (omega arith)
item_of_variable (n ∷ vars) base zero index f d h =
    ap (λ i. slice_index_or (first_of n (f base) ++ per_variable (suc base) vars f) i d) (zero-add index)
    ∙ in_front n (f base) (per_variable (suc base) vars f) index d h ∙ ap (λ s. f s index) (plain base)
  where
    plain : (b : ℕ) → b ≡ b + 0
    plain b = omega arith
item_of_variable (n ∷ vars) base (suc sort) index f d h =
    ap (λ i. slice_index_or (first_of n (f base) ++ per_variable (suc base) vars f) i d) (add_assoc n (total (take sort vars)) index)
    ∙ behind n (f base) (per_variable (suc base) vars f) (total (take sort vars) + index) d
    ∙ item_of_variable vars (suc base) sort index f d h ∙ ap (λ s. f s index) (next base sort)
  where
    next : (b s : ℕ) → suc b + s ≡ b + suc s
    next b s = omega arith

-- every radix is a width, so none is 0

each_first : (n : ℕ) (g : ℕ → ℕ) (rest : List ℕ) → ((i : ℕ) → 1 ≤ g i) → AreWide rest → AreWide (first_of n g ++ rest)
each_first zero g rest h k = k
each_first (suc n) g rest h k = (h 0, each_first n (λ i. g (suc i)) rest (λ i. h (suc i)) k)

each_variable : (vars : List ℕ) (base : ℕ) (f : ℕ → ℕ → ℕ) → ((s i : ℕ) → 1 ≤ f s i) → AreWide (per_variable base vars f)
each_variable [] base f h = tt
each_variable (n ∷ vars) base f h = each_first n (f base) (per_variable (suc base) vars f) (h base) (each_variable vars (suc base) f h)

pub radices_are_wide : (parts : SigParts) → HasWidth parts → AreWide (radices parts)
radices_are_wide parts has = each_variable parts.settings.vars 0 (λ sort index. width_at parts (record { 0 = sort })) (λ s i. has (record { 0 = s }))

-- a value that is there
some_of : {A : Type 0} (o : Option A) → IsSome o → (v : A) × (o ≡ Some v)
some_of None h = absurd (let f : ⊥ = cc in f)
some_of (Some v) h = (v, refl)

module _ (parts : SigParts) (has : HasWidth parts) (vars : VarSet) where
  pub is_numbered : (s : SortId) (i : ℕ) → i < vars_at parts s → by_number parts vars (variable_number parts s i) ≡ vars s i
  is_numbered s i h = item_of_variable parts.settings.vars 0 s.0 i (λ sort index. vars (record { 0 = sort }) index) false h
      ∙ ap (λ n. vars (record { 0 = n }) i) (zero-add s.0)

  pub own_digit : (test : ℕ) (s : SortId) (i : ℕ) → i < vars_at parts s → digit parts (own parts vars test) s i ≡ where_wanted (vars s i) (digit parts test s i)
  own_digit test s i h = place_kept (by_number parts vars) (radices parts) (variable_number parts s i) test (radices_are_wide parts has)
      ∙ ap (λ b. where_wanted b (digit parts test s i)) (is_numbered s i h)

  pub own_below : (test : ℕ) → own parts vars test ≤ test
  own_below test = kept_below (by_number parts vars) (radices parts) test

  pub own_again : (test : ℕ) → IsOwn parts vars (own parts vars test)
  own_again test = kept_again (by_number parts vars) (radices parts) test (radices_are_wide parts has)

  pub own_pool : (test : ℕ) → own parts vars test / assignments parts ≡ test / assignments parts
  own_pool test = kept_above (by_number parts vars) (radices parts) test (radices_are_wide parts has)

  pub own_is : (test : ℕ) → IsOwnOf parts vars test
  own_is test = record {
    pool = own_pool test;
    inside = λ s i h is. own_digit test s i h ∙ ap (λ b. where_wanted b (digit parts test s i)) is;
    outside = λ s i h is. own_digit test s i h ∙ ap (λ b. where_wanted b (digit parts test s i)) is;
    below = own_below test;
    again = own_again test;
  }

  -- Values

  module _ (pools : Pools) (test : ℕ) where
    own_value : (s : SortId) (i : ℕ) → i < vars_at parts s → vars s i ≡ true → value_at parts pools (own parts vars test) s i ≡ value_at parts pools test s i
    own_value s i h is = ap₂ (λ pool place. pool_value pools pool s place) (own_pool test)
        (own_digit test s i h ∙ ap (λ b. where_wanted b (digit parts test s i)) is)

    abbrev Told : Tree → Type 0
    Told t = has_vars parts t ≡ true → has_within vars t ≡ true → val parts pools (own parts vars test) t ≡ val parts pools test t

    all_told : (ts : List Tree) → Each Told ts → Each (λ t. has_vars parts t ≡ true) ts → Each (λ t. has_within vars t ≡ true) ts
        → map (val parts pools (own parts vars test)) ts ≡ map (val parts pools test) ts
    all_told [] have h k = refl
    all_told (t ∷ ts) have h k = ap₂ ◌∷◌ (have.0 h.0 k.0) (all_told ts have.1 h.1 k.1)

    pub own_tells : (t : Tree) → has_vars parts t ≡ true → has_within vars t ≡ true → val parts pools (own parts vars test) t ≡ val parts pools test t
    own_tells = tree_induct Told
        (λ s i e k. val-Var parts pools (own parts vars test) s i ∙ own_value s i (vars-Var parts s i e) (sym (fold-Var Bool (within_step vars) s i) ∙ k)
        ∙ sym (val-Var parts pools test s i))
        (λ f args have e k. val-App parts pools (own parts vars test) f args
        ∙ ap (λ vs. option_and_then (λ values. option_map (λ (m : Made). m.value) (applied parts f values parts.settings.budget)) (all_present vs))
        (all_told args have (vars-App parts f args e) (each_true (has_within vars) args (sym (fold-App Bool (within_step vars) f args) ∙ k)))
        ∙ sym (val-App parts pools test f args))

  pub first_is_own : IsOwn parts vars 0
  first_is_own = let h : own parts vars 0 ≤ 0 = own_below 0 in omega (arith, h)

  -- what holds of a test where it does of its own test holds up to the next own test, where it holds up to this one
  pub passes_on : (P : ℕ → Type 0) → ((test : ℕ) → P (own parts vars test) → P test) → (test next : ℕ) → IsNextOwn parts vars test next
      → ((before : ℕ) → before < test → P before) → P test → (before : ℕ) → before < next → P before
  passes_on P moves test next step passed here before less = moves before (by (eq-or-lt_of_le (step.first (own parts vars before)
      (lower (own parts vars before) before next (own_below before) less) (own_again before))))
    where
      lower : (o b n : ℕ) → o ≤ b → b < n → o < n
      lower o b n h k = omega arith

      by : (own parts vars before ≡ test) ⊎ (own parts vars before < test) → P (own parts vars before)
      by (inl e) = subst P (sym e) here
      by (inr h) = passed (own parts vars before) h

  -- Flat tests

  pub own_flat : IsBySorts parts vars → (test : ℕ) → IsFlat parts test → IsFlat parts (own parts vars test)
  own_flat by_sorts test flat s i j h k = own_digit test s i h ∙ ap₂ where_wanted (by_sorts s i j h k) (flat s i j h k) ∙ sym (own_digit test s j k)

  -- Two terms

  module _ (pools : Pools) (s t : Tree) (s_told : IsToldBy parts vars s) (t_told : IsToldBy parts vars t) where
    pub agree_from_own : (test : ℕ) → AgreeAt parts pools s t (own parts vars test) → AgreeAt parts pools s t test
    agree_from_own test a = (a.0, sym (own_tells pools test s s_told.variables s_told.inside) ∙ a.1, sym (own_tells pools test t t_told.variables t_told.inside) ∙ a.2)

    agree_at : Agrees parts pools s t → (test : ℕ) → test < test_count parts pools → AgreeAt parts pools s t test
    agree_at a test within =
        let some = some_of (val parts pools test s) (a.defined test within) in
        (some.0, some.1, sym (a.same test within) ∙ some.1)

    at_every : AgreeAtOwn parts pools vars s t → (test : ℕ) → test < test_count parts pools → AgreeAt parts pools s t test
    at_every a test within = agree_from_own test (a (own parts vars test) (low (own parts vars test) test (test_count parts pools) (own_below test) within) (own_again test))
      where
        low : (o n c : ℕ) → o ≤ n → n < c → o < c
        low o n c h k = omega arith

    pub own_decides : Agrees parts pools s t ↔ AgreeAtOwn parts pools vars s t
    own_decides = (
      λ a test within own. agree_at a test within,
      λ a. record {
        same = λ test within. let at = at_every a test within in at.1 ∙ sym at.2;
        defined = λ test within. let at = at_every a test within in subst IsSome (sym at.1) refl;
      },
    )

    pub first_own : (test : ℕ) → (AgreeAt parts pools s t test → ⊥) → ((before : ℕ) → before < test → AgreeAt parts pools s t before) → IsOwn parts vars test
    first_own test fails before = by (eq-or-lt_of_le (own_below test))
      where
        by : (own parts vars test ≡ test) ⊎ (own parts vars test < test) → IsOwn parts vars test
        by (inl e) = e
        by (inr h) = absurd (fails (agree_from_own test (before (own parts vars test) h)))
