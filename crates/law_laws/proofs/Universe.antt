-- The universe: which variables and applications it has, and that it has schemas and renamed terms.
use Rattle.std.proofs.Common.{◌≡◌, ℕ, ◌+◌, ◌<◌, ◌≤◌, ◌⊎◌, inl, inr, Bool, true, false, true≢false, ◌&&◌, ◌||◌, eqb-true, eq-eqb, ltb-true, lt-ltb, Some, IsTrue, List, [], ◌∷◌, map, sym, refl, ap, ap₂, ◌∙◌, subst, arith}
use Rattle.std.specs.List.{list_all, list_any}
use Rattle.law_sig.specs.Lists.{In, Each, total}
use Rattle.law_sig.specs.Lists.In.{here, there}
use Rattle.law_sig.specs.Trees.{same_symbol, schema_of, substituted}
use Rattle.law_sig.specs.Signature.{is_declared_sort, symbol_at, args_of, result_of, vars_at, weight_at}
use Rattle.law_sig.specs.Tests.{weight, is_explored, is_bounded, InU}
use Rattle.law_sig.specs.declared.tree.SortId.{SortId}
use Rattle.law_sig.specs.declared.tree.SymId.{SymId}
use Rattle.law_sig.specs.declared.tree.Tree.{Tree}
use Rattle.law_sig.specs.declared.tree.Tree.TheVariants.{Var, App}
use Rattle.law_sig.specs.declared.parts.Sym.{Sym}
use Rattle.law_sig.specs.declared.parts.SigParts.{SigParts}
use Rattle.law_laws.specs.Orders.{WeighsSomething}
use Rattle.law_laws.specs.Renaming.{Renames, renamed}
use Rattle.law_laws.proofs.TreeFacts.{tree_induct, weight-Var, weight-App, bounded-Var, bounded-App, schema-Var, schema-App, substituted-Var, substituted-App}
use Rattle.law_laws.proofs.ListFacts.{in_none}
use Rattle.law_laws.proofs.Orders.{schema_weight}
use Rattle.law_laws.proofs.Sorts.{both_true, IsApplication, HaveSorts, sorted_app, app_sorted, sorted_var, var_sorted, schema_sort, substituted_sort}
use Rattle.law_laws.proofs.Renaming.{each_true, all_true, renaming_keeps}

-- Explored symbols

pub either_true : (a c : Bool) → (a || c) ≡ true → (a ≡ true) ⊎ (c ≡ true)
either_true true c e = inl refl
either_true false c e = inr e

pub right_true : (a : Bool) → (a || true) ≡ true
right_true true = refl
right_true false = refl

symbol_id : ℕ → SymId
symbol_id n = record { 0 = n }

pub same_symbol_is : (f g : SymId) → same_symbol f g ≡ true → f ≡ g
unfolding symbol_id
same_symbol_is f g e = ap symbol_id (eqb-true f.0 g.0 e)

pub listed_in : (f : SymId) (fs : List SymId) → list_any (same_symbol f) fs ≡ true → In f fs
listed_in f [] e = absurd (true≢false (sym e))
listed_in f (g ∷ fs) e = by (listed_in f fs) (either_true (same_symbol f g) (list_any (same_symbol f) fs) e)
  where
    by : (list_any (same_symbol f) fs ≡ true → In f fs) → (same_symbol f g ≡ true) ⊎ (list_any (same_symbol f) fs ≡ true) → In f (g ∷ fs)
    by later (inl h) = subst (λ x. In f (x ∷ fs)) (same_symbol_is f g h) here
    by later (inr h) = there (later h)

pub in_listed : {f : SymId} {fs : List SymId} → In f fs → list_any (same_symbol f) fs ≡ true
in_listed (here {x = f} {xs = fs}) = ap (λ c. c || list_any (same_symbol f) fs) (eq-eqb f.0 f.0 refl)
in_listed (there {x = f} {y = g} {xs = fs} at) = ap (λ c. same_symbol f g || c) (in_listed at) ∙ right_true (same_symbol f g)

-- Variables

pub var_in : (parts : SigParts) (s : SortId) (i : ℕ) → IsTrue (is_declared_sort parts s) → i < vars_at parts s → 1 ≤ parts.settings.size → InU parts s (Var s i)
var_in parts s i declared below small = record {
  sorted = var_sorted parts s i declared;
  bounded = bounded-Var parts s i ∙ lt-ltb i (vars_at parts s) below;
  small = subst (λ n. n ≤ parts.settings.size) (sym (weight-Var parts s i)) small;
}

pub record IsVarOf (parts : SigParts) (sort s : SortId) (i : ℕ) : Type 0 where
  pub same : s ≡ sort
  pub declared : IsTrue (is_declared_sort parts s)
  pub below : i < vars_at parts s

pub in_var : (parts : SigParts) (sort s : SortId) (i : ℕ) → InU parts sort (Var s i) → IsVarOf parts sort s i
in_var parts sort s i u =
    let p = sorted_var parts s i sort u.sorted in
    record { same = p.1; declared = p.0; below = ltb-true i (vars_at parts s) (sym (bounded-Var parts s i) ∙ u.bounded) }

-- Applications

-- terms of the universe at these sorts, one by one
abbrev pub AreInU : SigParts → List Tree → List SortId → Type 0
AreInU parts [] [] = Unit {0}
AreInU parts [] (w ∷ ws) = ⊥
AreInU parts (t ∷ ts) [] = ⊥
AreInU parts (t ∷ ts) (w ∷ ws) = InU parts w t × AreInU parts ts ws

pub record IsAppOf (parts : SigParts) (f : SymId) (args : List Tree) (sort : SortId) : Type 0 where
  pub explored : is_explored parts f ≡ true
  pub symbol : Sym
  pub declared : symbol_at parts f ≡ Some symbol
  pub result : result_of symbol ≡ sort
  pub arguments : AreInU parts args (args_of symbol)
  pub small : weight parts (App f args) ≤ parts.settings.size

args_in : (parts : SigParts) (ts : List Tree) (ws : List SortId) → HaveSorts parts ts ws → Each (λ t. is_bounded parts t ≡ true) ts
    → total (map (weight parts) ts) ≤ parts.settings.size → AreInU parts ts ws
args_in parts [] [] h k l = tt
args_in parts [] (w ∷ ws) h k l = absurd h
args_in parts (t ∷ ts) [] h k l = absurd h
args_in parts (t ∷ ts) (w ∷ ws) h k l = (record { sorted = h.0; bounded = k.0; small = omega arith }, args_in parts ts ws h.1 k.1 (omega arith))

in_args : (parts : SigParts) (ts : List Tree) (ws : List SortId) → AreInU parts ts ws → HaveSorts parts ts ws × Each (λ t. is_bounded parts t ≡ true) ts
in_args parts [] [] h = (tt, tt)
in_args parts [] (w ∷ ws) h = absurd h
in_args parts (t ∷ ts) [] h = absurd h
in_args parts (t ∷ ts) (w ∷ ws) h = let (a, c) = in_args parts ts ws h.1 in ((h.0.sorted, a), (h.0.bounded, c))

pub in_app : (parts : SigParts) (f : SymId) (args : List Tree) (sort : SortId) → InU parts sort (App f args) → IsAppOf parts f args sort
in_app parts f args sort u = record {
  explored = b.0;
  symbol = a.symbol;
  declared = a.declared;
  result = a.result;
  arguments = args_in parts args (args_of a.symbol) a.sorts (each_true (is_bounded parts) args b.1) light;
  small = u.small;
}
  where
    a : IsApplication parts f args sort
    a = sorted_app parts f args sort u.sorted

    b : (is_explored parts f ≡ true) × (list_all (λ x. x) (map (is_bounded parts) args) ≡ true)
    b = both_true (is_explored parts f) (list_all (λ x. x) (map (is_bounded parts) args)) (sym (bounded-App parts f args) ∙ u.bounded)

    light : total (map (weight parts) args) ≤ parts.settings.size
    light = let e = weight-App parts f args in let h = u.small in omega arith

pub app_in : (parts : SigParts) (f : SymId) (args : List Tree) (sort : SortId) → IsAppOf parts f args sort → InU parts sort (App f args)
app_in parts f args sort a =
    let (sorts, below) = in_args parts args (args_of a.symbol) a.arguments in
    record {
      sorted = app_sorted parts f args sort (record { symbol = a.symbol; declared = a.declared; result = a.result; sorts = sorts });
      bounded = bounded-App parts f args ∙ ap₂ ◌&&◌ a.explored (all_true (is_bounded parts) args below);
      small = a.small;
    }

-- an argument weighs less
pub arg_weight : (parts : SigParts) → WeighsSomething parts → (f : SymId) (args : List Tree) (a : Tree) → In a args → weight parts a < weight parts (App f args)
arg_weight parts weighs f args a at =
    let h = weighs f in
    let k = within args at in
    let e = weight-App parts f args in
    omega arith
  where
    within : (ts : List Tree) → In a ts → weight parts a ≤ total (map (weight parts) ts)
    within [] at = in_none at
    within (t ∷ ts) here = omega arith
    within (t ∷ ts) (there at) = let h = within ts at in omega arith

-- Schemas and renamed terms

pub schema_in : (parts : SigParts) (sort : SortId) (t : Tree) → InU parts sort t → InU parts sort (schema_of t)
schema_in parts sort t u = record {
  sorted = schema_sort parts t ∙ u.sorted;
  bounded = bounded t u.bounded;
  small = subst (λ n. n ≤ parts.settings.size) (sym (schema_weight parts t)) u.small;
}
  where
    bounded : (t : Tree) → is_bounded parts t ≡ true → is_bounded parts (schema_of t) ≡ true
    bounded = tree_induct (λ t. is_bounded parts t ≡ true → is_bounded parts (schema_of t) ≡ true)
        (λ s i e. let h = ltb-true i (vars_at parts s) (sym (bounded-Var parts s i) ∙ e) in
        ap (is_bounded parts) (schema-Var s i) ∙ bounded-Var parts s 0 ∙ lt-ltb 0 (vars_at parts s) (omega arith))
        (λ f args have e. let b = both_true (is_explored parts f) (list_all (λ x. x) (map (is_bounded parts) args)) (sym (bounded-App parts f args) ∙ e) in
        ap (is_bounded parts) (schema-App f args) ∙ bounded-App parts f (map schema_of args)
        ∙ ap₂ ◌&&◌ b.0 (all args have (each_true (is_bounded parts) args b.1)))
      where
        all : (ts : List Tree) → Each (λ t. is_bounded parts t ≡ true → is_bounded parts (schema_of t) ≡ true) ts → Each (λ t. is_bounded parts t ≡ true) ts
            → list_all (λ x. x) (map (is_bounded parts) (map schema_of ts)) ≡ true
        all [] have h = refl
        all (t ∷ ts) have h = ap₂ ◌&&◌ (have.0 h.0) (all ts have.1 h.1)

pub renamed_weight : (parts : SigParts) (r : SortId → ℕ → ℕ) (t : Tree) → weight parts (substituted (renamed r) t) ≡ weight parts t
renamed_weight parts r = tree_induct (λ t. weight parts (substituted (renamed r) t) ≡ weight parts t)
    (λ s i. ap (weight parts) (substituted-Var (renamed r) s i) ∙ weight-Var parts s (r s i) ∙ sym (weight-Var parts s i))
    (λ f args have. ap (weight parts) (substituted-App (renamed r) f args) ∙ weight-App parts f (map (substituted (renamed r)) args)
    ∙ ap (λ n. weight_at parts f + n) (all args have) ∙ sym (weight-App parts f args))
  where
    all : (ts : List Tree) → Each (λ t. weight parts (substituted (renamed r) t) ≡ weight parts t) ts
        → total (map (weight parts) (map (substituted (renamed r)) ts)) ≡ total (map (weight parts) ts)
    all [] have = refl
    all (t ∷ ts) have = ap₂ ◌+◌ have.0 (all ts have.1)

pub renamed_in : (parts : SigParts) (r : SortId → ℕ → ℕ) → Renames parts r → (sort : SortId) (t : Tree) → InU parts sort t → InU parts sort (substituted (renamed r) t)
renamed_in parts r renames sort t u = record {
  sorted = substituted_sort parts (renamed r) (renaming_keeps parts r) t sort u.sorted;
  bounded = bounded t u.bounded;
  small = subst (λ n. n ≤ parts.settings.size) (sym (renamed_weight parts r t)) u.small;
}
  where
    bounded : (t : Tree) → is_bounded parts t ≡ true → is_bounded parts (substituted (renamed r) t) ≡ true
    bounded = tree_induct (λ t. is_bounded parts t ≡ true → is_bounded parts (substituted (renamed r) t) ≡ true)
        (λ s i e. ap (is_bounded parts) (substituted-Var (renamed r) s i) ∙ bounded-Var parts s (r s i)
        ∙ lt-ltb (r s i) (vars_at parts s) (renames s i (ltb-true i (vars_at parts s) (sym (bounded-Var parts s i) ∙ e))))
        (λ f args have e. let b = both_true (is_explored parts f) (list_all (λ x. x) (map (is_bounded parts) args)) (sym (bounded-App parts f args) ∙ e) in
        ap (is_bounded parts) (substituted-App (renamed r) f args) ∙ bounded-App parts f (map (substituted (renamed r)) args)
        ∙ ap₂ ◌&&◌ b.0 (all args have (each_true (is_bounded parts) args b.1)))
      where
        all : (ts : List Tree) → Each (λ t. is_bounded parts t ≡ true → is_bounded parts (substituted (renamed r) t) ≡ true) ts → Each (λ t. is_bounded parts t ≡ true) ts
            → list_all (λ x. x) (map (is_bounded parts) (map (substituted (renamed r)) ts)) ≡ true
        all [] have h = refl
        all (t ∷ ts) have h = ap₂ ◌&&◌ (have.0 h.0) (all ts have.1 h.1)
