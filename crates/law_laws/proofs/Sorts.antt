-- The sorts of terms: what a well-sorted application has, substitution, and the sort of a schema.
use Rattle.std.proofs.Common.{◌≡◌, ℕ, Bool, true, false, true≢false, ◌&&◌, eqb-true, eq-eqb, if◌then◌else◌, Option, Some, None, IsTrue, List, [], ◌∷◌, map, sym, refl, ap, ap₂, ◌∙◌}
use Rattle.law_sig.specs.Lists.{Each}
use Rattle.law_sig.specs.Trees.{same_sort, schema_of, Subst, substituted}
use Rattle.law_sig.specs.Signature.{is_declared_sort, symbol_at, args_of, result_of, same_sorts, sort_over, sort_of}
use Rattle.law_sig.specs.Derive.{KeepsSorts}
use Rattle.law_sig.specs.declared.tree.SortId.{SortId}
use Rattle.law_sig.specs.declared.tree.SymId.{SymId}
use Rattle.law_sig.specs.declared.tree.Tree.{Tree}
use Rattle.law_sig.specs.declared.tree.Tree.TheVariants.{Var, App}
use Rattle.law_sig.specs.declared.parts.Sym.{Sym}
use Rattle.law_sig.specs.declared.parts.SigParts.{SigParts}
use Rattle.law_laws.proofs.TreeFacts.{tree_induct, sort-Var, sort-App, schema-Var, schema-App, substituted-Var, substituted-App}
use Rattle.law_laws.proofs.BodyFacts.{some_is, none_is}

-- Terms of these sorts, one by one

abbrev pub HaveSorts : SigParts → List Tree → List SortId → Type 0
HaveSorts parts [] [] = Unit {0}
HaveSorts parts [] (w ∷ ws) = ⊥
HaveSorts parts (t ∷ ts) [] = ⊥
HaveSorts parts (t ∷ ts) (w ∷ ws) = (sort_of parts t ≡ Some w) × HaveSorts parts ts ws

id_of : ℕ → SortId
id_of n = record { 0 = n }

pub same_sort_is : (s w : SortId) → same_sort s w ≡ true → s ≡ w
unfolding id_of
same_sort_is s w e = ap id_of (eqb-true s.0 w.0 e)

pub same_sort_itself : (s : SortId) → same_sort s s ≡ true
same_sort_itself s = eq-eqb s.0 s.0 refl

-- both hold where the conjunction does
pub both_true : (a c : Bool) → (a && c) ≡ true → (a ≡ true) × (c ≡ true)
both_true true c e = (refl, e)
both_true false c e = absurd (true≢false (sym e))

-- from the test, and back
pub have_sorts : (parts : SigParts) (ts : List Tree) (ws : List SortId) → same_sorts (map (sort_of parts) ts) ws ≡ true → HaveSorts parts ts ws
have_sorts parts [] [] e = tt
have_sorts parts [] (w ∷ ws) e = absurd (true≢false (sym e))
have_sorts parts (t ∷ ts) [] e = absurd (true≢false (sym e))
have_sorts parts (t ∷ ts) (w ∷ ws) e = by (have_sorts parts ts ws) (sort_of parts t) refl e
  where
    by : (same_sorts (map (sort_of parts) ts) ws ≡ true → HaveSorts parts ts ws) → (o : Option SortId) → sort_of parts t ≡ o → same_sorts (o ∷ map (sort_of parts) ts) (w ∷ ws) ≡ true → HaveSorts parts (t ∷ ts) (w ∷ ws)
    by others None k h = absurd (true≢false (sym h))
    by others (Some s) k h =
        let p = both_true (same_sort s w) (same_sorts (map (sort_of parts) ts) ws) h in
        (k ∙ ap Some (same_sort_is s w p.0), others p.1)

pub sorts_had : (parts : SigParts) (ts : List Tree) (ws : List SortId) → HaveSorts parts ts ws → map (sort_of parts) ts ≡ map Some ws
sorts_had parts [] [] h = refl
sorts_had parts [] (w ∷ ws) h = absurd h
sorts_had parts (t ∷ ts) [] h = absurd h
sorts_had parts (t ∷ ts) (w ∷ ws) h = ap₂ ◌∷◌ h.0 (sorts_had parts ts ws h.1)

same_sorts_some : (ws : List SortId) → same_sorts (map Some ws) ws ≡ true
same_sorts_some [] = refl
same_sorts_some (w ∷ ws) = ap₂ ◌&&◌ (same_sort_itself w) (same_sorts_some ws)

-- An application is well-sorted where its symbol is declared and its arguments have the symbol's sorts

pub record IsApplication (parts : SigParts) (f : SymId) (args : List Tree) (sort : SortId) : Type 0 where
  pub symbol : Sym
  pub declared : symbol_at parts f ≡ Some symbol
  pub result : result_of symbol ≡ sort
  pub sorts : HaveSorts parts args (args_of symbol)

pub sorted_app : (parts : SigParts) (f : SymId) (args : List Tree) (sort : SortId) → sort_of parts (App f args) ≡ Some sort → IsApplication parts f args sort
sorted_app parts f args sort e = by (symbol_at parts f) refl (sym (sort-App parts f args) ∙ e)
  where
    tested : (symbol : Sym) → symbol_at parts f ≡ Some symbol → (c : Bool) → same_sorts (map (sort_of parts) args) (args_of symbol) ≡ c
        → (if c then Some (result_of symbol) else None) ≡ Some sort → IsApplication parts f args sort
    tested symbol k true t h = record { symbol = symbol; declared = k; result = some_is (result_of symbol) sort h; sorts = have_sorts parts args (args_of symbol) t }
    tested symbol k false t h = none_is sort h

    by : (o : Option Sym) → symbol_at parts f ≡ o → sort_over o (map (sort_of parts) args) ≡ Some sort → IsApplication parts f args sort
    by None k h = none_is sort h
    by (Some symbol) k h = tested symbol k (same_sorts (map (sort_of parts) args) (args_of symbol)) refl h

pub app_sorted : (parts : SigParts) (f : SymId) (args : List Tree) (sort : SortId) → IsApplication parts f args sort → sort_of parts (App f args) ≡ Some sort
app_sorted parts f args sort a = sort-App parts f args ∙ ap₂ sort_over a.declared (sorts_had parts args (args_of a.symbol) a.sorts)
    ∙ ap (λ c. if c then Some (result_of a.symbol) else None) (same_sorts_some (args_of a.symbol)) ∙ ap Some a.result

-- a variable is well-sorted where its sort is declared
pub sorted_var : (parts : SigParts) (s : SortId) (i : ℕ) (sort : SortId) → sort_of parts (Var s i) ≡ Some sort → IsTrue (is_declared_sort parts s) × (s ≡ sort)
sorted_var parts s i sort e = by (is_declared_sort parts s) refl (sym (sort-Var parts s i) ∙ e)
  where
    by : (c : Bool) → is_declared_sort parts s ≡ c → (if c then Some s else None) ≡ Some sort → IsTrue (is_declared_sort parts s) × (s ≡ sort)
    by true k h = (k, some_is s sort h)
    by false k h = none_is sort h

pub var_sorted : (parts : SigParts) (s : SortId) (i : ℕ) → IsTrue (is_declared_sort parts s) → sort_of parts (Var s i) ≡ Some s
var_sorted parts s i declared = sort-Var parts s i ∙ ap (λ c. if c then Some s else None) declared

-- A substitution that keeps sorts keeps them of terms

pub substituted_sort : (parts : SigParts) (σ : Subst) → KeepsSorts parts σ → (t : Tree) (sort : SortId) → sort_of parts t ≡ Some sort → sort_of parts (substituted σ t) ≡ Some sort
substituted_sort parts σ keeps = tree_induct (λ t. (sort : SortId) → sort_of parts t ≡ Some sort → sort_of parts (substituted σ t) ≡ Some sort)
    (λ s i sort e. let (declared, same) = sorted_var parts s i sort e in
    ap (sort_of parts) (substituted-Var σ s i) ∙ keeps s i declared ∙ ap Some same)
    (λ f args have sort e. let a = sorted_app parts f args sort e in
    ap (sort_of parts) (substituted-App σ f args)
    ∙ app_sorted parts f (map (substituted σ) args) sort (record { symbol = a.symbol; declared = a.declared; result = a.result; sorts = all args (args_of a.symbol) have a.sorts }))
  where
    all : (ts : List Tree) (ws : List SortId) → Each (λ t. (sort : SortId) → sort_of parts t ≡ Some sort → sort_of parts (substituted σ t) ≡ Some sort) ts
        → HaveSorts parts ts ws → HaveSorts parts (map (substituted σ) ts) ws
    all [] [] have h = tt
    all [] (w ∷ ws) have h = absurd h
    all (t ∷ ts) [] have h = absurd h
    all (t ∷ ts) (w ∷ ws) have h = (have.0 w h.0, all ts ws have.1 h.1)

-- a schema has its term's sort
pub schema_sort : (parts : SigParts) (t : Tree) → sort_of parts (schema_of t) ≡ sort_of parts t
schema_sort parts = tree_induct (λ t. sort_of parts (schema_of t) ≡ sort_of parts t)
    (λ s i. ap (sort_of parts) (schema-Var s i) ∙ sort-Var parts s 0 ∙ sym (sort-Var parts s i))
    (λ f args have. ap (sort_of parts) (schema-App f args) ∙ sort-App parts f (map schema_of args)
    ∙ ap (sort_over (symbol_at parts f)) (all args have) ∙ sym (sort-App parts f args))
  where
    all : (ts : List Tree) → Each (λ t. sort_of parts (schema_of t) ≡ sort_of parts t) ts → map (sort_of parts) (map schema_of ts) ≡ map (sort_of parts) ts
    all [] have = refl
    all (t ∷ ts) have = ap₂ ◌∷◌ have.0 (all ts have.1)
