-- The orders of terms: they are total, equal only at the same term, and an argument replaced by an earlier one makes the
-- term earlier.
use Rattle.std.proofs.Common.{◌≡◌, ℕ, ◌+◌, ◌<◌, ◌≤◌, ◌⊎◌, inl, inr, List, [], ◌∷◌, ◌++◌, map, Less, Equal, refl, sym, ap, ap₂, ◌∙◌, subst, subst₂, arith, append_assoc}
use Rattle.std.specs.Cmp.{IsTotalOrder}
use Rattle.std.proofs.lemmas.Cmp.{on_total}
use Rattle.law_sig.specs.Lists.{Each, total}
use Rattle.law_sig.specs.Trees.{schema_of}
use Rattle.law_sig.specs.Signature.{weight_at}
use Rattle.law_sig.specs.Tests.{weight}
use Rattle.law_sig.specs.Order.{Rank, num, pair, row, ranked, rank, compare_k, explore_rank, explore_cmp, IsBefore}
use Rattle.law_sig.specs.declared.tree.SortId.{SortId}
use Rattle.law_sig.specs.declared.tree.SymId.{SymId}
use Rattle.law_sig.specs.declared.tree.Tree.{Tree}
use Rattle.law_sig.specs.declared.tree.Tree.TheVariants.{Var, App}
use Rattle.law_sig.specs.declared.parts.SigParts.{SigParts}
use Rattle.law_laws.proofs.TreeFacts.{tree_induct, tree_cases, weight-Var, weight-App, schema-Var, schema-App, rank-Var, rank-App}
use Rattle.law_laws.proofs.ListFacts.{mapped}
use Rattle.law_laws.proofs.Ranks.{Below, Upto, rank_cmp_total, less_below, below_less, equal_same, trichotomy, irreflexive}

-- A rank tells the term

same_sort_id : (s u : SortId) → s.0 ≡ u.0 → s ≡ u
same_sort_id s u e = ap id e
  where
    id : ℕ → SortId
    id n = record { 0 = n }

same_symbol_id : (f g : SymId) → f.0 ≡ g.0 → f ≡ g
same_symbol_id f g e = ap id e
  where
    id : ℕ → SymId
    id n = record { 0 = n }

-- the parts of two ranks of one shape
ranked_parts : (w v k l n m : ℕ) (x y : Rank) → ranked w k n x ≡ ranked v l m y → (w ≡ v) × (k ≡ l) × (n ≡ m) × (x ≡ y)
ranked_parts w v k l n m x y e = (cc, cc, cc, cc)

row_parts : (x y : Rank) (xs ys : List Rank) → row (x ∷ xs) ≡ row (y ∷ ys) → (x ≡ y) × (row xs ≡ row ys)
row_parts x y xs ys e = (cc, cc)

one_list : (parts : SigParts) (ss ts : List Tree) → Each (λ s. (t : Tree) → rank parts s ≡ rank parts t → s ≡ t) ss
    → row (map (rank parts) ss) ≡ row (map (rank parts) ts) → ss ≡ ts
one_list parts [] [] have e = refl
one_list parts [] (t ∷ ts) have e = cc
one_list parts (s ∷ ss) [] have e = cc
one_list parts (s ∷ ss) (t ∷ ts) have e =
    let p = row_parts (rank parts s) (rank parts t) (map (rank parts) ss) (map (rank parts) ts) e in
    ap₂ ◌∷◌ (have.0 t p.0) (one_list parts ss ts have.1 p.1)

-- terms of one rank are the same
pub one_tree : (parts : SigParts) (s t : Tree) → rank parts s ≡ rank parts t → s ≡ t
one_tree parts = tree_induct (λ s. (t : Tree) → rank parts s ≡ rank parts t → s ≡ t)
    (λ u i. tree_cases (λ t. rank parts (Var u i) ≡ rank parts t → Var u i ≡ t) (var_var u i) (var_app u i))
    (λ f ss have. tree_cases (λ t. rank parts (App f ss) ≡ rank parts t → App f ss ≡ t) (app_var f ss) (app_app f ss have))
  where
    var_var : (u : SortId) (i : ℕ) (v : SortId) (j : ℕ) → rank parts (Var u i) ≡ rank parts (Var v j) → Var u i ≡ Var v j
    var_var u i v j e =
        let p = ranked_parts 1 1 0 0 u.0 v.0 (num i) (num j) (sym (rank-Var parts u i) ∙ e ∙ rank-Var parts v j) in
        let k : i ≡ j = cc p.3 in
        ap₂ Var (same_sort_id u v p.2) k

    var_app : (u : SortId) (i : ℕ) (g : SymId) (ts : List Tree) → rank parts (Var u i) ≡ rank parts (App g ts) → Var u i ≡ App g ts
    var_app u i g ts e =
        let p = ranked_parts 1 (weight parts (App g ts)) 0 1 u.0 g.0 (num i) (row (map (rank parts) ts)) (sym (rank-Var parts u i) ∙ e ∙ rank-App parts g ts) in
        absurd (cc p.1)

    app_var : (f : SymId) (ss : List Tree) (v : SortId) (j : ℕ) → rank parts (App f ss) ≡ rank parts (Var v j) → App f ss ≡ Var v j
    app_var f ss v j e =
        let p = ranked_parts (weight parts (App f ss)) 1 1 0 f.0 v.0 (row (map (rank parts) ss)) (num j) (sym (rank-App parts f ss) ∙ e ∙ rank-Var parts v j) in
        absurd (cc p.1)

    app_app : (f : SymId) (ss : List Tree) → Each (λ s. (t : Tree) → rank parts s ≡ rank parts t → s ≡ t) ss
        → (g : SymId) (ts : List Tree) → rank parts (App f ss) ≡ rank parts (App g ts) → App f ss ≡ App g ts
    app_app f ss have g ts e =
        let p = ranked_parts (weight parts (App f ss)) (weight parts (App g ts)) 1 1 f.0 g.0 (row (map (rank parts) ss)) (row (map (rank parts) ts))
        (sym (rank-App parts f ss) ∙ e ∙ rank-App parts g ts) in
        ap₂ App (same_symbol_id f g p.2) (one_list parts ss ts have p.3)

-- Total orders

pub compare_k_total : (parts : SigParts) → IsTotalOrder (compare_k parts)
compare_k_total parts = on_total (rank parts) rank_cmp_total

pub explore_total : (parts : SigParts) → IsTotalOrder (explore_cmp parts)
explore_total parts = on_total (explore_rank parts) rank_cmp_total

pub one_tree_k : (parts : SigParts) (s t : Tree) → compare_k parts s t ≡ Equal → s ≡ t
one_tree_k parts s t e = one_tree parts s t (equal_same (rank parts s) (rank parts t) e)

pub explore_rank_same : (parts : SigParts) (s t : Tree) → explore_rank parts s ≡ explore_rank parts t → s ≡ t
explore_rank_same parts s t e = one_tree parts s t (cc)

pub one_tree_explore : (parts : SigParts) (s t : Tree) → explore_cmp parts s t ≡ Equal → s ≡ t
one_tree_explore parts s t e = explore_rank_same parts s t (equal_same (explore_rank parts s) (explore_rank parts t) e)

-- no term stands before itself, and what stands before what stands before a term stands before it
pub never_before_itself : (parts : SigParts) (t : Tree) → IsBefore parts t t → ⊥
never_before_itself parts t e = irreflexive (explore_rank parts t) (less_below (explore_rank parts t) (explore_rank parts t) e)

pub before_chain : (parts : SigParts) (s t u : Tree) → IsBefore parts s t → IsBefore parts t u → IsBefore parts s u
before_chain parts = (explore_total parts).trans

-- any two terms are the same, or one stands before the other
pub before_decided : (parts : SigParts) (s t : Tree) → (s ≡ t) ⊎ (IsBefore parts s t ⊎ IsBefore parts t s)
before_decided parts s t = by (trichotomy (explore_rank parts s) (explore_rank parts t))
  where
    by : Upto (explore_rank parts s) (explore_rank parts t) ⊎ Below (explore_rank parts t) (explore_rank parts s)
        → (s ≡ t) ⊎ (IsBefore parts s t ⊎ IsBefore parts t s)
    by (inl (inl e)) = inl (explore_rank_same parts s t e)
    by (inl (inr h)) = inr (inl (below_less (explore_rank parts s) (explore_rank parts t) h))
    by (inr h) = inr (inr (below_less (explore_rank parts t) (explore_rank parts s) h))

-- Weights

-- a rank begins with the weight
pub rank_weight : (parts : SigParts) (t : Tree) → (rest : Rank) × (rank parts t ≡ pair (num (weight parts t)) rest)
rank_weight parts = tree_cases (λ t. (rest : Rank) × (rank parts t ≡ pair (num (weight parts t)) rest))
    (λ s i. (pair (num 0) (pair (num s.0) (num i)), rank-Var parts s i ∙ ap (λ n. pair (num n) (pair (num 0) (pair (num s.0) (num i)))) (sym (weight-Var parts s i))))
    (λ f args. (pair (num 1) (pair (num f.0) (row (map (rank parts) args))), rank-App parts f args))

pub lighter : (parts : SigParts) (s t : Tree) → weight parts s < weight parts t → Below (rank parts s) (rank parts t)
lighter parts s t less =
    let (x, p) = rank_weight parts s in
    let (y, q) = rank_weight parts t in
    subst₂ Below (sym p) (sym q) (inl less)

pub weight_upto : (parts : SigParts) (s t : Tree) → Upto (rank parts s) (rank parts t) → weight parts s ≤ weight parts t
weight_upto parts s t h = by (rank_weight parts s) (rank_weight parts t)
  where
    first : (x y : Rank) → Upto (pair (num (weight parts s)) x) (pair (num (weight parts t)) y) → weight parts s ≤ weight parts t
    first x y (inl e) =
        let k : weight parts s ≡ weight parts t = cc in
        omega arith
    first x y (inr (inl less)) = omega arith
    first x y (inr (inr (e, k))) =
        let k : weight parts s ≡ weight parts t = cc in
        omega arith

    by : (x : Rank) × (rank parts s ≡ pair (num (weight parts s)) x) → (y : Rank) × (rank parts t ≡ pair (num (weight parts t)) y) → weight parts s ≤ weight parts t
    by (x, p) (y, q) = first x y (subst₂ Upto p q h)

-- the schema weighs the same
pub schema_weight : (parts : SigParts) (t : Tree) → weight parts (schema_of t) ≡ weight parts t
schema_weight parts = tree_induct (λ t. weight parts (schema_of t) ≡ weight parts t)
    (λ s i. ap (weight parts) (schema-Var s i) ∙ weight-Var parts s 0 ∙ sym (weight-Var parts s i))
    (λ f args have. ap (weight parts) (schema-App f args) ∙ weight-App parts f (map schema_of args)
    ∙ ap (λ n. weight_at parts f + n) (all args have) ∙ sym (weight-App parts f args))
  where
    all : (ts : List Tree) → Each (λ t. weight parts (schema_of t) ≡ weight parts t) ts
        → total (map (weight parts) (map schema_of ts)) ≡ total (map (weight parts) ts)
    all [] have = refl
    all (t ∷ ts) have = ap₂ ◌+◌ have.0 (all ts have.1)

-- what stands before a term weighs no more
pub before_weight : (parts : SigParts) (s t : Tree) → IsBefore parts s t → weight parts s ≤ weight parts t
before_weight parts s t e = by (less_below (explore_rank parts s) (explore_rank parts t) e)
  where
    by : Below (explore_rank parts s) (explore_rank parts t) → weight parts s ≤ weight parts t
    by (inl h) = subst₂ ◌≤◌ (schema_weight parts s) (schema_weight parts t) (weight_upto parts (schema_of s) (schema_of t) (inr h))
    by (inr h) = weight_upto parts s t (inr h.1)

-- what weighs less stands before
pub lighter_before : (parts : SigParts) (s t : Tree) → weight parts s < weight parts t → IsBefore parts s t
lighter_before parts s t less = below_less (explore_rank parts s) (explore_rank parts t)
    (inl (lighter parts (schema_of s) (schema_of t) (subst₂ ◌<◌ (sym (schema_weight parts s)) (sym (schema_weight parts t)) less)))

-- An argument replaced

-- the weight of a row of arguments, by one of them
row_weight : (parts : SigParts) (before after : List Tree) (s : Tree)
    → total (map (weight parts) (before ++ s ∷ after)) ≡ weight parts s + total (map (weight parts) (before ++ after))
row_weight parts [] after s = refl
row_weight parts (b ∷ before) after s =
    let k : total (map (weight parts) (before ++ s ∷ after)) ≡ weight parts s + total (map (weight parts) (before ++ after)) = row_weight parts before after s in
    omega arith

app_weight : (parts : SigParts) (f : SymId) (before after : List Tree) (s : Tree)
    → weight parts (App f (before ++ s ∷ after)) ≡ weight parts s + (weight_at parts f + total (map (weight parts) (before ++ after)))
app_weight parts f before after s =
    let k = row_weight parts before after s in
    let l = weight-App parts f (before ++ s ∷ after) in
    omega arith

row_falls : (parts : SigParts) (before after : List Tree) (s t : Tree) → Below (rank parts s) (rank parts t)
    → Below (row (map (rank parts) (before ++ s ∷ after))) (row (map (rank parts) (before ++ t ∷ after)))
row_falls parts [] after s t h = inl h
row_falls parts (b ∷ before) after s t h = inr (refl, row_falls parts before after s t h)

-- in the order K
pub falls_k : (parts : SigParts) (f : SymId) (before after : List Tree) (s t : Tree) → Below (rank parts s) (rank parts t)
    → Below (rank parts (App f (before ++ s ∷ after))) (rank parts (App f (before ++ t ∷ after)))
falls_k parts f before after s t h =
    subst₂ Below (sym (rank-App parts f (before ++ s ∷ after))) (sym (rank-App parts f (before ++ t ∷ after))) (by (split (weight parts s) (weight parts t) (weight_upto parts s t (inr h))))
  where
    split : (n m : ℕ) → n ≤ m → (n < m) ⊎ (n ≡ m)
    split n m h = grind arith

    by : (weight parts s < weight parts t) ⊎ (weight parts s ≡ weight parts t)
        → Below (ranked (weight parts (App f (before ++ s ∷ after))) 1 f.0 (row (map (rank parts) (before ++ s ∷ after))))
        (ranked (weight parts (App f (before ++ t ∷ after))) 1 f.0 (row (map (rank parts) (before ++ t ∷ after))))
    by (inl less) =
        let k = app_weight parts f before after s in
        let l = app_weight parts f before after t in
        inl (omega arith)
    by (inr e) = inr (
      ap num (app_weight parts f before after s ∙ ap (λ n. n + (weight_at parts f + total (map (weight parts) (before ++ after)))) e ∙ sym (app_weight parts f before after t)),
      inr (refl, inr (refl, row_falls parts before after s t h)),
    )

schema_around : (f : SymId) (before after : List Tree) (s : Tree)
    → schema_of (App f (before ++ s ∷ after)) ≡ App f (map schema_of before ++ schema_of s ∷ map schema_of after)
schema_around f before after s = schema-App f (before ++ s ∷ after) ∙ ap (App f) (mapped schema_of before after s)

-- in the order of exploring
pub falls_explore : (parts : SigParts) (f : SymId) (before after : List Tree) (s t : Tree) → Below (explore_rank parts s) (explore_rank parts t)
    → Below (explore_rank parts (App f (before ++ s ∷ after))) (explore_rank parts (App f (before ++ t ∷ after)))
falls_explore parts f before after s t (inl h) = inl (subst₂ (λ x y. Below (rank parts x) (rank parts y))
    (sym (schema_around f before after s)) (sym (schema_around f before after t))
    (falls_k parts f (map schema_of before) (map schema_of after) (schema_of s) (schema_of t) h))
falls_explore parts f before after s t (inr h) =
    let e : schema_of s ≡ schema_of t = one_tree parts (schema_of s) (schema_of t) h.0 in
    inr (
      ap (rank parts) (schema_around f before after s ∙ ap (λ x. App f (map schema_of before ++ x ∷ map schema_of after)) e ∙ sym (schema_around f before after t)),
      falls_k parts f before after s t h.1,
    )

pub replaced_before_k : (parts : SigParts) (f : SymId) (before after : List Tree) (s t : Tree) → compare_k parts s t ≡ Less
    → compare_k parts (App f (before ++ s ∷ after)) (App f (before ++ t ∷ after)) ≡ Less
replaced_before_k parts f before after s t e =
    below_less (rank parts (App f (before ++ s ∷ after))) (rank parts (App f (before ++ t ∷ after)))
    (falls_k parts f before after s t (less_below (rank parts s) (rank parts t) e))

pub replaced_before : (parts : SigParts) (f : SymId) (before after : List Tree) (s t : Tree) → IsBefore parts s t
    → IsBefore parts (App f (before ++ s ∷ after)) (App f (before ++ t ∷ after))
replaced_before parts f before after s t e =
    below_less (explore_rank parts (App f (before ++ s ∷ after))) (explore_rank parts (App f (before ++ t ∷ after)))
    (falls_explore parts f before after s t (less_below (explore_rank parts s) (explore_rank parts t) e))

-- s is t, or stands before it
abbrev pub IsUpto : SigParts → Tree → Tree → Type 0
IsUpto parts s t = (s ≡ t) ⊎ IsBefore parts s t

pub upto_then : (parts : SigParts) (s t u : Tree) → IsUpto parts s t → IsUpto parts t u → IsUpto parts s u
upto_then parts s t u (inl e) (inl k) = inl (e ∙ k)
upto_then parts s t u (inl e) (inr k) = inr (subst (λ w. IsBefore parts w u) (sym e) k)
upto_then parts s t u (inr h) (inl k) = inr (subst (IsBefore parts s) k h)
upto_then parts s t u (inr h) (inr k) = inr (before_chain parts s t u h k)

-- each of the first list is the one at its place in the second, or stands before it
abbrev pub AreUpto : SigParts → List Tree → List Tree → Type 0
AreUpto parts [] [] = Unit {0}
AreUpto parts [] (t ∷ ts) = ⊥
AreUpto parts (s ∷ ss) [] = ⊥
AreUpto parts (s ∷ ss) (t ∷ ts) = IsUpto parts s t × AreUpto parts ss ts

from_here : (parts : SigParts) (f : SymId) (done ss ts : List Tree) → AreUpto parts ss ts → IsUpto parts (App f (done ++ ss)) (App f (done ++ ts))
from_here parts f done [] [] h = inl refl
from_here parts f done [] (t ∷ ts) h = absurd h
from_here parts f done (s ∷ ss) [] h = absurd h
from_here parts f done (s ∷ ss) (t ∷ ts) h =
    upto_then parts (App f (done ++ s ∷ ss)) (App f (done ++ t ∷ ss)) (App f (done ++ t ∷ ts)) (one h.0)
    (subst₂ (λ x y. IsUpto parts (App f x) (App f y)) (append_assoc done (t ∷ []) ss) (append_assoc done (t ∷ []) ts) (from_here parts f (done ++ t ∷ []) ss ts h.1))
  where
    one : IsUpto parts s t → IsUpto parts (App f (done ++ s ∷ ss)) (App f (done ++ t ∷ ss))
    one (inl e) = inl (ap (λ x. App f (done ++ x ∷ ss)) e)
    one (inr e) = inr (replaced_before parts f done ss s t e)

-- all arguments replaced by earlier ones, or kept
pub all_upto : (parts : SigParts) (f : SymId) (ss ts : List Tree) → AreUpto parts ss ts → IsUpto parts (App f ss) (App f ts)
all_upto parts f ss ts h = from_here parts f [] ss ts h

-- A schema is its own schema, and what has an earlier schema stands before

pub schema_twice : (t : Tree) → schema_of (schema_of t) ≡ schema_of t
schema_twice = tree_induct (λ t. schema_of (schema_of t) ≡ schema_of t)
    (λ s i. ap schema_of (schema-Var s i) ∙ schema-Var s 0 ∙ sym (schema-Var s i))
    (λ f args have. ap schema_of (schema-App f args) ∙ schema-App f (map schema_of args) ∙ ap (App f) (all args have) ∙ sym (schema-App f args))
  where
    all : (ts : List Tree) → Each (λ t. schema_of (schema_of t) ≡ schema_of t) ts → map schema_of (map schema_of ts) ≡ map schema_of ts
    all [] have = refl
    all (t ∷ ts) have = cc (have.0, all ts have.1)

pub schema_before : (parts : SigParts) (s t : Tree) → IsBefore parts (schema_of s) (schema_of t) → IsBefore parts s t
schema_before parts s t h = below_less (explore_rank parts s) (explore_rank parts t) (inl (by (less_below (explore_rank parts (schema_of s)) (explore_rank parts (schema_of t)) h)))
  where
    by : Below (explore_rank parts (schema_of s)) (explore_rank parts (schema_of t)) → Below (rank parts (schema_of s)) (rank parts (schema_of t))
    by (inl k) = subst₂ (λ x y. Below (rank parts x) (rank parts y)) (schema_twice s) (schema_twice t) k
    by (inr k) = k.1
