-- The values of terms at tests, in a bank that grows.
use Rattle.std.proofs.Common.{◌≡◌, ℕ, zero, suc, ◌^◌, ◌<◌, ◌≤◌, take, slice_get, slice_index_or, Option, Some, None, List, [], ◌∷◌, map, length, IsTrue, option_map, option_and_then, sym, refl, ap, ◌∙◌, subst, arith}
use Rattle.std.proofs.lemmas.Option.{slice_get-get_or}
use Rattle.law_sig.specs.Lists.{Each}
use Rattle.law_sig.specs.Signature.{args_of}
use Rattle.law_sig.specs.Evaluate.{Made, ap as applied}
use Rattle.law_sig.specs.Tests.{test_count, all_present}
use Rattle.law_sig.specs.WellFormed.{IsWellFormed}
use Rattle.law_sig.specs.declared.tree.SortId.{SortId}
use Rattle.law_sig.specs.declared.tree.SymId.{SymId}
use Rattle.law_sig.specs.declared.tree.Tree.{Tree}
use Rattle.law_sig.specs.declared.tree.Tree.TheVariants.{App}
use Rattle.law_sig.specs.declared.parts.SigParts.{SigParts}
use Rattle.law_laws.specs.Renaming.{has_vars}
use Rattle.law_laws.proofs.Renaming.{vars-App}
use Rattle.law_laws.proofs.Sorts.{HaveSorts, sorted_app}
use Rattle.law_laws.proofs.TreeFacts.{val-App}
use Rattle.law_ids.specs.declared.ids.ValueId.{ValueId}
use Rattle.law_ids.specs.Values.{AreOf, tree_of, trees_of, Grows}
use Rattle.law_ids.specs.Table.{PoolTable, IsFor, pools_of}
use Rattle.law_ids.proofs.BankFacts.{take_all}
use Rattle.law_ids.proofs.Reading.{list_keeps, sorts_keep, id_keeps, each_at}
use Rattle.law_draws.specs.Draws.{pools_by}
use Rattle.law_testing.specs.Values.{ArePools, IsTestable, IsValue, Both, tests_by, val_by, applied_value}
use Rattle.law_testing.proofs.BothFacts.{both_long}

-- Pools and values stay when the bank grows

pub pools_stay : (parts : SigParts) (old new : List Tree) (table : PoolTable) → Grows old new → ArePools parts old table → ArePools parts new table
pools_stay parts old new table grows p =
    let kept = list_keeps {X = List (List ValueId)} {Y = List (List Tree)} (λ b xs. Each (AreOf b) xs) (λ b xs. map (trees_of b) xs) sorts_keep old new grows table.ids p.held in
    record { fits = p.fits; held = kept.0; are = kept.1 ∙ p.are }

pub value_stays : (parts : SigParts) (old new : List Tree) (test : ℕ) (t : Tree) (v : ValueId) → Grows old new → IsValue parts old test t v → IsValue parts new test t v
value_stays parts old new test t v grows is =
    let kept = id_keeps old new grows v is.held in
    record { held = kept.0; is = is.is ∙ ap Some (sym kept.1) }

-- Tests

-- the number of tests
pub count_is : (parts : SigParts) (bank : List Tree) (table : PoolTable) (n : ℕ) → ArePools parts bank table
    → ((own : SigParts) (b : List Tree) → IsFor own table → n ≡ test_count own (pools_of b table.ids)) → n ≡ tests_by parts
count_is parts bank table n p is = is parts bank p.fits ∙ ap (test_count parts) p.are

-- Applications

-- as many arguments as sorts
as_many : (parts : SigParts) (ts : List Tree) (ws : List SortId) → HaveSorts parts ts ws → length ts ≡ length ws
as_many parts [] [] h = refl
as_many parts [] (w ∷ ws) h = absurd h
as_many parts (t ∷ ts) [] h = absurd h
as_many parts (t ∷ ts) (w ∷ ws) h = ap suc (as_many parts ts ws h.1)

pub few_args : (parts : SigParts) → IsWellFormed parts → (f : SymId) (args : List Tree) → IsTestable parts (App f args) → length args ≤ 8
few_args parts well f args t =
    let a = sorted_app parts f args t.sort t.sorted in
    let e = as_many parts args (args_of a.symbol) a.sorts in
    let h = (well.symbols f a.symbol a.declared).args_bound in
    omega arith

pub testable_args : (parts : SigParts) (f : SymId) (args : List Tree) → IsTestable parts (App f args) → Each (IsTestable parts) args
testable_args parts f args t =
    let a = sorted_app parts f args t.sort t.sorted in
    all args (args_of a.symbol) a.sorts (vars-App parts f args t.variables)
  where
    all : (ts : List Tree) (ws : List SortId) → HaveSorts parts ts ws → Each (λ t. IsTrue (has_vars parts t)) ts → Each (IsTestable parts) ts
    all [] [] h k = tt
    all [] (w ∷ ws) h k = absurd h
    all (t ∷ ts) [] h k = absurd h
    all (t ∷ ts) (w ∷ ws) h k = (record { sort = w; sorted = h.0; variables = k.0 }, all ts ws h.1 k.1)

-- the ids of the arguments' values
pub values_held : (parts : SigParts) (bank : List Tree) (test : ℕ) (args : List Tree) (ids : List ValueId) → Both (IsValue parts bank test) args ids → AreOf bank ids
values_held parts bank test [] [] both = tt
values_held parts bank test [] (v ∷ ids) both = absurd both
values_held parts bank test (t ∷ args) [] both = absurd both
values_held parts bank test (t ∷ args) (v ∷ ids) both = (both.0.held, values_held parts bank test args ids both.1)

pub values_present : (parts : SigParts) (bank : List Tree) (test : ℕ) (args : List Tree) (ids : List ValueId) → Both (IsValue parts bank test) args ids
    → all_present (map (val_by parts test) args) ≡ Some (trees_of bank ids)
values_present parts bank test [] [] both = refl
values_present parts bank test [] (v ∷ ids) both = absurd both
values_present parts bank test (t ∷ args) [] both = absurd both
values_present parts bank test (t ∷ args) (v ∷ ids) both =
    ap (λ o. all_present (o ∷ map (val_by parts test) args)) both.0.is
    ∙ ap (option_map (λ xs. tree_of bank v ∷ xs)) (values_present parts bank test args ids both.1)

-- an application has the value of its symbol over them
pub application_value : (parts : SigParts) (bank : List Tree) (test : ℕ) (f : SymId) (args : List Tree) (ids : List ValueId) → Both (IsValue parts bank test) args ids
    → val_by parts test (App f args) ≡ applied_value parts f bank ids
application_value parts bank test f args ids both = val-App parts (pools_by parts) test f args
    ∙ ap (option_and_then (λ values. option_map (λ (m : Made). m.value) (applied parts f values parts.settings.budget))) (values_present parts bank test args ids both)

-- and none where an argument has none
missing_at : (parts : SigParts) (test : ℕ) (args : List Tree) (at : ℕ) (t : Tree) → slice_get args at ≡ Some t → val_by parts test t ≡ None
    → all_present (map (val_by parts test) args) ≡ None
missing_at parts test [] at t e none = cc
missing_at parts test (s ∷ args) zero t e none =
    ap (λ o. all_present (o ∷ map (val_by parts test) args)) (ap (val_by parts test) (let is : s ≡ t = cc in is) ∙ none)
missing_at parts test (s ∷ args) (suc n) t e none = by (val_by parts test s) (missing_at parts test args n t e none)
  where
    by : (o : Option Tree) → all_present (map (val_by parts test) args) ≡ None → all_present (o ∷ map (val_by parts test) args) ≡ None
    by None h = refl
    by (Some v) h = ap (option_map (λ xs. v ∷ xs)) h

pub application_missing : (parts : SigParts) (test : ℕ) (f : SymId) (args : List Tree) (at : ℕ) (t : Tree) → slice_get args at ≡ Some t → val_by parts test t ≡ None
    → val_by parts test (App f args) ≡ None
application_missing parts test f args at t e none = val-App parts (pools_by parts) test f args
    ∙ ap (option_and_then (λ values. option_map (λ (m : Made). m.value) (applied parts f values parts.settings.budget))) (missing_at parts test args at t e none)

-- Step by step

pub args_testable : (parts : SigParts) (term : Tree) (f : SymId) (args : List Tree) (at : ℕ) (t : Tree) → term ≡ App f args → IsTestable parts term
    → at < length args → t ≡ slice_index_or args at t → IsTestable parts t
args_testable parts term f args at t is testable less there =
    each_at (IsTestable parts) args at t (testable_args parts f args (subst (IsTestable parts) is testable)) less there

pub value_missing : (parts : SigParts) (test : ℕ) (term : Tree) (f : SymId) (args : List Tree) (at : ℕ) (t : Tree) → term ≡ App f args
    → at < length args → t ≡ slice_index_or args at t → val_by parts test t ≡ None → val_by parts test term ≡ None
value_missing parts test term f args at t is less there none =
    ap (val_by parts test) is ∙ application_missing parts test f args at t (slice_get-get_or args at t less ∙ ap Some (sym there)) none

-- all arguments
pub record HasValues (parts : SigParts) (bank : List Tree) (test : ℕ) (term : Tree) (f : SymId) (ids : List ValueId) : Type 0 where
  pub held : AreOf bank ids
  pub few : length ids < 2 ^ 32
  pub value : val_by parts test term ≡ applied_value parts f bank ids

pub values_all : (parts : SigParts) → IsWellFormed parts → (bank : List Tree) (test : ℕ) (term : Tree) (f : SymId) (args : List Tree) (at : ℕ) (ids own : List ValueId)
    → term ≡ App f args → IsTestable parts term → length args ≤ at → Both (IsValue parts bank test) (take at args) ids → own ≡ ids → HasValues parts bank test term f own
values_all parts well bank test term f args at ids own is testable end both same =
    let all : Both (IsValue parts bank test) args ids = subst (λ l. Both (IsValue parts bank test) l ids) (take_all args at end) both in
    let few = few_args parts well f args (subst (IsTestable parts) is testable) in
    let long = both_long (IsValue parts bank test) args ids all in
    subst (HasValues parts bank test term f) (sym same) (record {
      held = values_held parts bank test args ids all;
      few = omega arith;
      value = ap (val_by parts test) is ∙ application_value parts bank test f args ids all;
    })
