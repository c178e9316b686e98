-- All variables of a term, from left to right.
use Rattle.std.proofs.Common.{◌≡◌, ℕ, ◌⊎◌, inl, inr, Bool, true, false, if◌then◌else◌, List, [], ◌∷◌, ◌++◌, map, sym, refl, ap, ap₂, ◌∙◌, subst}
use Rattle.law_sig.specs.Lists.{In, Each}
use Rattle.law_sig.specs.Lists.In.{here, there}
use Rattle.law_sig.specs.Trees.{same_sort, joined, holes}
use Rattle.law_sig.specs.declared.tree.SortId.{SortId}
use Rattle.law_sig.specs.declared.tree.Tree.{Tree}
use Rattle.law_sig.specs.declared.tree.Tree.TheOpen as o
use Rattle.law_sig.specs.declared.tree.Tree.TheFolds.{fold-Tree}
use Rattle.law_laws.proofs.TreeFacts.{tree_induct, fold-Var, fold-App, holes-Var, holes-App}
use Rattle.law_laws.proofs.ListFacts.{in_none, in_rest}
use Rattle.law_laws.proofs.Sorts.{same_sort_is, same_sort_itself}

abbrev pub Variable : Type 0
Variable = SortId × ℕ

abbrev pub vars_step : o.Tree-F (List Variable) → List Variable
vars_step (o.Var sort index) = (sort, index) ∷ []
vars_step (o.App head below) = joined below

abbrev pub vars : Tree → List Variable
vars = fold-Tree (List Variable) vars_step

-- the indices of a sort among variables
abbrev pub indices : SortId → List Variable → List ℕ
indices s [] = []
indices s (v ∷ vs) = if same_sort v.0 s then v.1 ∷ indices s vs else indices s vs

pub indices_append : (s : SortId) (us vs : List Variable) → indices s (us ++ vs) ≡ indices s us ++ indices s vs
indices_append s [] vs = refl
indices_append s (u ∷ us) vs = by (same_sort u.0 s) (indices_append s us vs)
  where
    by : (b : Bool) → indices s (us ++ vs) ≡ indices s us ++ indices s vs
        → (if b then u.1 ∷ indices s (us ++ vs) else indices s (us ++ vs)) ≡ (if b then u.1 ∷ indices s us else indices s us) ++ indices s vs
    by true ih = ap (λ l. u.1 ∷ l) ih
    by false ih = ih

pub holes_are : (s : SortId) (t : Tree) → holes s t ≡ indices s (vars t)
holes_are s = tree_induct (λ t. holes s t ≡ indices s (vars t))
    (λ u i. holes-Var s u i ∙ ap (indices s) (sym (fold-Var (List Variable) vars_step u i)))
    (λ f args have. holes-App s f args ∙ all args have ∙ ap (indices s) (sym (fold-App (List Variable) vars_step f args)))
  where
    all : (ts : List Tree) → Each (λ t. holes s t ≡ indices s (vars t)) ts → joined (map (holes s) ts) ≡ indices s (joined (map vars ts))
    all [] have = refl
    all (t ∷ ts) have = ap₂ ◌++◌ have.0 (all ts have.1) ∙ sym (indices_append s (vars t) (joined (map vars ts)))

pub as_index : (s : SortId) (i : ℕ) (vs : List Variable) → In {A = Variable} (s, i) vs → In i (indices s vs)
as_index s i [] at = in_none at
as_index s i (v ∷ vs) at = by (same_sort v.0 s) refl (in_rest at) (as_index s i vs)
  where
    by : (b : Bool) → same_sort v.0 s ≡ b → (◌≡◌ {A = Variable} (s, i) v) ⊎ In {A = Variable} (s, i) vs → (In {A = Variable} (s, i) vs → In i (indices s vs))
        → In i (if b then v.1 ∷ indices s vs else indices s vs)
    by true e (inl k) ih = subst (λ (z : Variable). In i (z.1 ∷ indices s vs)) k here
    by true e (inr k) ih = there (ih k)
    by false e (inl k) ih = let d : true ≡ false = sym (same_sort_itself s) ∙ ap (λ (z : Variable). same_sort z.0 s) k ∙ e in cc
    by false e (inr k) ih = ih k

pub as_variable : (s : SortId) (i : ℕ) (vs : List Variable) → In i (indices s vs) → In {A = Variable} (s, i) vs
as_variable s i [] at = in_none at
as_variable s i (v ∷ vs) at = by (same_sort v.0 s) refl at (as_variable s i vs)
  where
    first : v.0 ≡ s → (i ≡ v.1) ⊎ In i (indices s vs) → (In i (indices s vs) → In {A = Variable} (s, i) vs) → In {A = Variable} (s, i) (v ∷ vs)
    first e (inl k) ih = subst (λ (z : Variable). In {A = Variable} z (v ∷ vs)) (λ j. (e j, sym k j)) here
    first e (inr k) ih = there (ih k)

    by : (b : Bool) → same_sort v.0 s ≡ b → In i (if b then v.1 ∷ indices s vs else indices s vs) → (In i (indices s vs) → In {A = Variable} (s, i) vs) → In {A = Variable} (s, i) (v ∷ vs)
    by true e k ih = first (same_sort_is v.0 s e) (in_rest k) ih
    by false e k ih = there (ih k)

pub hole_in_vars : (t : Tree) (s : SortId) (i : ℕ) → In i (holes s t) → In {A = Variable} (s, i) (vars t)
hole_in_vars t s i at = as_variable s i (vars t) (subst (In i) (holes_are s t) at)

pub var_in_holes : (t : Tree) (v : Variable) → In v (vars t) → In v.1 (holes v.0 t)
var_in_holes t v at = subst (In v.1) (sym (holes_are v.0 t)) (as_index v.0 v.1 (vars t) at)
