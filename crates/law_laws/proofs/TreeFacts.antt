-- Induction on terms, and what each fold gives at a variable and at an application.
use Rattle.std.proofs.Common.{◌≡◌, ℕ, ◌+◌, Bool, ◌&&◌, nat_lt, Option, Some, None, List, [], ◌∷◌, map, if◌then◌else◌, sym, refl, ap, ◌∙◌, subst, option_map, option_and_then}
use Rattle.std.specs.List.{list_all}
use Rattle.law_sig.specs.Lists.{Each, total}
use Rattle.law_sig.specs.Trees.{same_sort, node_count, nodes_step, depth, depth_step, greatest, schema_of, schema_step, joined, holes, holes_step, Subst, subst_step, substituted}
use Rattle.law_sig.specs.Signature.{symbol_at, is_declared_sort, vars_at, weight_at, sort_over, sort_of, sort_step}
use Rattle.law_sig.specs.Evaluate.{Made, ap as applied}
use Rattle.law_sig.specs.Tests.{weight, weight_step, is_explored, is_bounded, bounded_step, Pools, value_at, all_present, val, val_step}
use Rattle.law_sig.specs.Order.{num, row, ranked, rank, rank_step}
use Rattle.law_sig.specs.declared.tree.SortId.{SortId}
use Rattle.law_sig.specs.declared.tree.SymId.{SymId}
use Rattle.law_sig.specs.declared.tree.Tree.{Tree}
use Rattle.law_sig.specs.declared.tree.Tree.TheOpen as o
use Rattle.law_sig.specs.declared.tree.Tree.TheVariants.{Var, App, rolls-Var, rolls-App, outs-Var, outs-App}
use Rattle.law_sig.specs.declared.tree.Tree.TheViews.{roll-Tree, out-Tree}
use Rattle.law_sig.specs.declared.tree.Tree.TheFolds.{fold-Tree, map-Tree, fold-roll-Tree, ind-Tree, para-roll-Tree}
use Rattle.law_sig.specs.declared.parts.SigParts.{SigParts}

-- what holds of every variable, and of every application whose arguments all have it, holds of every term
pub tree_induct : (P : Tree → Type 0) → ((sort : SortId) (index : ℕ) → P (Var sort index))
    → ((f : SymId) (args : List Tree) → Each P args → P (App f args)) → (t : Tree) → P t
tree_induct P at_var at_app = ind-Tree P (λ x y is. again y x is (layer y))
  where
    haves : (ys : List ((t : Tree) × P t)) → Each P (map (λ e. e.0) ys)
    haves [] = tt
    haves (y ∷ ys) = (y.1, haves ys)

    layer : (y : o.Tree-F ((t : Tree) × P t)) → P (roll-Tree (map-Tree ((t : Tree) × P t) Tree (λ e. e.0) y))
    layer (o.Var s i) = subst P (sym (rolls-Var s i)) (at_var s i)
    layer (o.App f ys) = subst P (sym (rolls-App f (map (λ e. e.0) ys))) (at_app f (map (λ e. e.0) ys) (haves ys))

    again : (y : o.Tree-F ((t : Tree) × P t)) (x : o.Tree-F Tree) → map-Tree ((t : Tree) × P t) Tree (λ e. e.0) y ≡ x
        → P (roll-Tree (map-Tree ((t : Tree) × P t) Tree (λ e. e.0) y)) → P (roll-Tree x)
    again y x is h = subst (λ z. P (roll-Tree z)) is h

-- the same for a single step: a term is a variable or an application
pub tree_cases : (P : Tree → Type 0) → ((sort : SortId) (index : ℕ) → P (Var sort index))
    → ((f : SymId) (args : List Tree) → P (App f args)) → (t : Tree) → P t
tree_cases P at_var at_app = tree_induct P at_var (λ f args have. at_app f args)

-- the parts of equal terms are equal, and a variable is no application
pub same_var : (s u : SortId) (i j : ℕ) → Var s i ≡ Var u j → (s ≡ u) × (i ≡ j)
same_var s u i j e =
    let k : ◌≡◌ {A = o.Tree-F Tree} (o.Var s i) (o.Var u j) = sym (outs-Var s i) ∙ ap out-Tree e ∙ outs-Var u j in
    (cc, cc)

pub same_app : (f g : SymId) (ss ts : List Tree) → App f ss ≡ App g ts → (f ≡ g) × (ss ≡ ts)
same_app f g ss ts e =
    let k : ◌≡◌ {A = o.Tree-F Tree} (o.App f ss) (o.App g ts) = sym (outs-App f ss) ∙ ap out-Tree e ∙ outs-App g ts in
    (cc, cc)

pub var_no_app : (s : SortId) (i : ℕ) (f : SymId) (ts : List Tree) → Var s i ≡ App f ts → ⊥
var_no_app s i f ts e =
    let k : ◌≡◌ {A = o.Tree-F Tree} (o.Var s i) (o.App f ts) = sym (outs-Var s i) ∙ ap out-Tree e ∙ outs-App f ts in
    cc

-- a fold
pub fold-Var : (A : Type 0) (step : o.Tree-F A → A) (s : SortId) (i : ℕ) → fold-Tree A step (Var s i) ≡ step (o.Var s i)
fold-Var A step s i = ap (fold-Tree A step) (sym (rolls-Var s i)) ∙ fold-roll-Tree A step (o.Var s i)

pub fold-App : (A : Type 0) (step : o.Tree-F A → A) (f : SymId) (args : List Tree)
    → fold-Tree A step (App f args) ≡ step (o.App f (map (fold-Tree A step) args))
fold-App A step f args = ap (fold-Tree A step) (sym (rolls-App f args)) ∙ fold-roll-Tree A step (o.App f args)

pub nodes-Var : (s : SortId) (i : ℕ) → node_count (Var s i) ≡ 1
nodes-Var s i = fold-Var ℕ nodes_step s i

pub nodes-App : (f : SymId) (args : List Tree) → node_count (App f args) ≡ 1 + total (map node_count args)
nodes-App f args = fold-App ℕ nodes_step f args

pub depth-Var : (s : SortId) (i : ℕ) → depth (Var s i) ≡ 1
depth-Var s i = fold-Var ℕ depth_step s i

pub depth-App : (f : SymId) (args : List Tree) → depth (App f args) ≡ 1 + greatest (map depth args)
depth-App f args = fold-App ℕ depth_step f args

pub schema-Var : (s : SortId) (i : ℕ) → schema_of (Var s i) ≡ Var s 0
schema-Var s i = fold-Var Tree schema_step s i

pub schema-App : (f : SymId) (args : List Tree) → schema_of (App f args) ≡ App f (map schema_of args)
schema-App f args = fold-App Tree schema_step f args

pub holes-Var : (sort s : SortId) (i : ℕ) → holes sort (Var s i) ≡ (if same_sort s sort then i ∷ [] else [])
holes-Var sort s i = fold-Var (List ℕ) (holes_step sort) s i

pub holes-App : (sort : SortId) (f : SymId) (args : List Tree) → holes sort (App f args) ≡ joined (map (holes sort) args)
holes-App sort f args = fold-App (List ℕ) (holes_step sort) f args

pub substituted-Var : (σ : Subst) (s : SortId) (i : ℕ) → substituted σ (Var s i) ≡ σ s i
substituted-Var σ s i = fold-Var Tree (subst_step σ) s i

pub substituted-App : (σ : Subst) (f : SymId) (args : List Tree) → substituted σ (App f args) ≡ App f (map (substituted σ) args)
substituted-App σ f args = fold-App Tree (subst_step σ) f args

pub sort-Var : (parts : SigParts) (s : SortId) (i : ℕ) → sort_of parts (Var s i) ≡ (if is_declared_sort parts s then Some s else None)
sort-Var parts s i = fold-Var (Option SortId) (sort_step parts) s i

pub sort-App : (parts : SigParts) (f : SymId) (args : List Tree)
    → sort_of parts (App f args) ≡ sort_over (symbol_at parts f) (map (sort_of parts) args)
sort-App parts f args = fold-App (Option SortId) (sort_step parts) f args

pub weight-Var : (parts : SigParts) (s : SortId) (i : ℕ) → weight parts (Var s i) ≡ 1
weight-Var parts s i = fold-Var ℕ (weight_step parts) s i

pub weight-App : (parts : SigParts) (f : SymId) (args : List Tree)
    → weight parts (App f args) ≡ weight_at parts f + total (map (weight parts) args)
weight-App parts f args = fold-App ℕ (weight_step parts) f args

pub bounded-Var : (parts : SigParts) (s : SortId) (i : ℕ) → is_bounded parts (Var s i) ≡ nat_lt i (vars_at parts s)
bounded-Var parts s i = fold-Var Bool (bounded_step parts) s i

pub bounded-App : (parts : SigParts) (f : SymId) (args : List Tree)
    → is_bounded parts (App f args) ≡ (is_explored parts f && list_all (λ inside. inside) (map (is_bounded parts) args))
bounded-App parts f args = fold-App Bool (bounded_step parts) f args

pub val-Var : (parts : SigParts) (pools : Pools) (test : ℕ) (s : SortId) (i : ℕ)
    → val parts pools test (Var s i) ≡ value_at parts pools test s i
val-Var parts pools test s i = fold-Var (Option Tree) (val_step parts pools test) s i

pub val-App : (parts : SigParts) (pools : Pools) (test : ℕ) (f : SymId) (args : List Tree)
    → val parts pools test (App f args)
    ≡ option_and_then (λ values. option_map (λ (m : Made). m.value) (applied parts f values parts.settings.budget)) (all_present (map (val parts pools test) args))
val-App parts pools test f args = fold-App (Option Tree) (val_step parts pools test) f args

pub rank-Var : (parts : SigParts) (s : SortId) (i : ℕ) → rank parts (Var s i) ≡ ranked 1 0 s.0 (num i)
rank-Var parts s i = ap (rank parts) (sym (rolls-Var s i)) ∙ para-roll-Tree _ (rank_step parts) (o.Var s i)

-- each item beside what a function gives of it
pub firsts : {A B : Type 0} (f : A → B) (xs : List A) → map (λ (a : A × B). a.0) (map (λ x. (x, f x)) xs) ≡ xs
firsts f [] = refl
firsts f (x ∷ xs) = ap (λ l. x ∷ l) (firsts f xs)

pub seconds : {A B : Type 0} (f : A → B) (xs : List A) → map (λ (a : A × B). a.1) (map (λ x. (x, f x)) xs) ≡ map f xs
seconds f [] = refl
seconds f (x ∷ xs) = ap (λ l. f x ∷ l) (seconds f xs)

pub rank-App : (parts : SigParts) (f : SymId) (args : List Tree)
    → rank parts (App f args) ≡ ranked (weight parts (App f args)) 1 f.0 (row (map (rank parts) args))
rank-App parts f args = ap (rank parts) (sym (rolls-App f args)) ∙ para-roll-Tree _ (rank_step parts) (o.App f args)
    ∙ ap (λ l. ranked (weight parts (App f l)) 1 f.0 (row (map (λ a. a.1) (map (λ x. (x, rank parts x)) args)))) (firsts (rank parts) args)
    ∙ ap (λ l. ranked (weight parts (App f args)) 1 f.0 (row l)) (seconds (rank parts) args)

-- replacing each variable by itself changes nothing
pub substituted_itself : (t : Tree) → substituted Var t ≡ t
substituted_itself = tree_induct (λ t. substituted Var t ≡ t) (substituted-Var Var) (λ f args have. substituted-App Var f args ∙ ap (App f) (all args have))
  where
    all : (ts : List Tree) → Each (λ t. substituted Var t ≡ t) ts → map (substituted Var) ts ≡ ts
    all [] have = refl
    all (t ∷ ts) have = cc (have.0, all ts have.1)
