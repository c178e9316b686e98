-- The order K, by what is compared in turn.
use Rattle.std.proofs.Common.{◌≡◌, ℕ, zero, suc, ◌+◌, ◌-◌, ◌<◌, ◌≤◌, ◌^◌, min, List, [], ◌∷◌, length, map, drop, Some, None, slice_get, slice_index_or, Less, Greater, nat_cmp, sym, refl, ap, ap₂, ◌∙◌, arith}
use Rattle.std.specs.declared.cmp.Ordering.{Ordering}
use Rattle.std.specs.Ordering.{ordering_then}
use Rattle.std.specs.Cmp.Lexicographic.{slice_cmp}
use Rattle.law_sig.specs.Lists.{total}
use Rattle.law_sig.specs.Tests.{weight}
use Rattle.law_sig.specs.Order.{compare_k}
use Rattle.law_sig.specs.declared.tree.SortId.{SortId}
use Rattle.law_sig.specs.declared.tree.SymId.{SymId}
use Rattle.law_sig.specs.declared.tree.Tree.{Tree}
use Rattle.law_sig.specs.declared.tree.Tree.TheVariants.{Var, App, outs-Var, outs-App}
use Rattle.law_sig.specs.declared.tree.Tree.TheViews.{out-Tree}
use Rattle.law_sig.specs.declared.parts.SigParts.{SigParts}
use Rattle.law_laws.specs.Orders.{compare_heads}
use Rattle.law_laws.proofs.TreeFacts.{weight-App}
use Rattle.law_laws.proofs.Spelled.{k_spelled}
use Rattle.law_chains.proofs.Stepping.{dropped_at}

-- weights, as they are counted
uncut : (n m : ℕ) → n < 2 ^ 64 → m ≡ min n (2 ^ 64 - 1) → n ≡ m
uncut n m small e = omega arith

pub by_weight : (parts : SigParts) (s t : Tree) (a b : ℕ) (o : Ordering) → weight parts s < 2 ^ 64 → weight parts t < 2 ^ 64
    → a ≡ min (weight parts s) (2 ^ 64 - 1) → b ≡ min (weight parts t) (2 ^ 64 - 1) → o ≡ nat_cmp a b
    → compare_k parts s t ≡ ordering_then o (compare_heads parts (out-Tree s) (out-Tree t))
by_weight parts s t a b o small smaller is is' e =
    k_spelled parts s t ∙ ap (λ x. ordering_then x (compare_heads parts (out-Tree s) (out-Tree t)))
    (ap₂ nat_cmp (uncut (weight parts s) a small is) (uncut (weight parts t) b smaller is') ∙ sym e)

-- heads
pub var_var : (parts : SigParts) (s t : Tree) (u v : SortId) (i j : ℕ) → s ≡ Var u i → t ≡ Var v j
    → compare_heads parts (out-Tree s) (out-Tree t) ≡ ordering_then (nat_cmp u.0 v.0) (nat_cmp i j)
var_var parts s t u v i j e k = ap₂ (compare_heads parts) (ap out-Tree e ∙ outs-Var u i) (ap out-Tree k ∙ outs-Var v j)

pub var_app : (parts : SigParts) (s t : Tree) (u : SortId) (i : ℕ) (g : SymId) (ts : List Tree) → s ≡ Var u i → t ≡ App g ts
    → compare_heads parts (out-Tree s) (out-Tree t) ≡ Less
var_app parts s t u i g ts e k = ap₂ (compare_heads parts) (ap out-Tree e ∙ outs-Var u i) (ap out-Tree k ∙ outs-App g ts)

pub app_var : (parts : SigParts) (s t : Tree) (f : SymId) (ss : List Tree) (v : SortId) (j : ℕ) → s ≡ App f ss → t ≡ Var v j
    → compare_heads parts (out-Tree s) (out-Tree t) ≡ Greater
app_var parts s t f ss v j e k = ap₂ (compare_heads parts) (ap out-Tree e ∙ outs-App f ss) (ap out-Tree k ∙ outs-Var v j)

pub app_app : (parts : SigParts) (s t : Tree) (f g : SymId) (ss ts : List Tree) (o : Ordering) → s ≡ App f ss → t ≡ App g ts → o ≡ nat_cmp f.0 g.0
    → compare_heads parts (out-Tree s) (out-Tree t) ≡ ordering_then o (slice_cmp (compare_k parts) ss ts)
app_app parts s t f g ss ts o e k h =
    ap₂ (compare_heads parts) (ap out-Tree e ∙ outs-App f ss) (ap out-Tree k ∙ outs-App g ts)
    ∙ ap (λ x. ordering_then x (slice_cmp (compare_k parts) ss ts)) (sym h)

-- arguments
pub found_at : {A : Type 0} (ys : List A) (i : ℕ) (y : A) → Some y ≡ slice_get ys i → drop i ys ≡ y ∷ drop (i + 1) ys
found_at [] zero y e = cc
found_at [] (suc i) y e = cc
found_at (x ∷ ys) zero y e =
    let same : x ≡ y = cc in
    ap (λ z. z ∷ ys) same
found_at (x ∷ ys) (suc i) y e =
    let up : suc (i + 1) ≡ suc i + 1 = omega arith in
    found_at ys i y e ∙ ap (λ n. y ∷ drop n (x ∷ ys)) up

none_at : {A : Type 0} (ys : List A) (i : ℕ) → None ≡ slice_get ys i → drop i ys ≡ []
none_at [] zero e = refl
none_at [] (suc i) e = refl
none_at (x ∷ ys) zero e = cc
none_at (x ∷ ys) (suc i) e = none_at ys i e

past : {A : Type 0} (xs : List A) (i : ℕ) → length xs ≤ i → drop i xs ≡ []
past [] zero h = refl
past [] (suc i) h = refl
past (x ∷ xs) zero h = absurd (omega arith)
past (x ∷ xs) (suc i) h = past xs i (omega arith)

pub one_pair : (parts : SigParts) (xs ys : List Tree) (i : ℕ) (x y : Tree) (o : Ordering) → i < length xs → x ≡ slice_index_or xs i x → Some y ≡ slice_get ys i
    → o ≡ compare_k parts x y
    → slice_cmp (compare_k parts) (drop i xs) (drop i ys) ≡ ordering_then o (slice_cmp (compare_k parts) (drop (i + 1) xs) (drop (i + 1) ys))
one_pair parts xs ys i x y o early is found e =
    ap₂ (slice_cmp (compare_k parts)) (dropped_at xs i x early is) (found_at ys i y found)
    ∙ ap (λ z. ordering_then z (slice_cmp (compare_k parts) (drop (i + 1) xs) (drop (i + 1) ys))) (sym e)

pub no_pair : (parts : SigParts) (xs ys : List Tree) (i : ℕ) (x : Tree) → i < length xs → x ≡ slice_index_or xs i x → None ≡ slice_get ys i
    → slice_cmp (compare_k parts) (drop i xs) (drop i ys) ≡ Greater
no_pair parts xs ys i x early is none = ap₂ (slice_cmp (compare_k parts)) (dropped_at xs i x early is) (none_at ys i none)

pub fewer : (parts : SigParts) (xs ys : List Tree) (i : ℕ) → length xs ≤ i → i < length ys → slice_cmp (compare_k parts) (drop i xs) (drop i ys) ≡ Less
fewer parts xs ys i late early = by ys i early (past xs i late)
  where
    by : (ys : List Tree) (k : ℕ) → k < length ys → drop i xs ≡ [] → slice_cmp (compare_k parts) (drop i xs) (drop k ys) ≡ Less
    by [] k h e = absurd (omega arith)
    by (y ∷ ys) zero h e = ap (λ l. slice_cmp (compare_k parts) l (y ∷ ys)) e
    by (y ∷ ys) (suc k) h e = by ys k (omega arith) e

-- an argument weighs no more
item_weight : (parts : SigParts) (xs : List Tree) (i : ℕ) (x : Tree) → Some x ≡ slice_get xs i → weight parts x ≤ total (map (weight parts) xs)
item_weight parts [] i x e = cc
item_weight parts (y ∷ xs) zero x e =
    let same : y ≡ x = cc in
    let k : weight parts y ≡ weight parts x = ap (weight parts) same in
    omega arith
item_weight parts (y ∷ xs) (suc i) x e = let h = item_weight parts xs i x e in omega arith

pub read_at : {A : Type 0} (xs : List A) (i : ℕ) (x : A) → i < length xs → x ≡ slice_index_or xs i x → Some x ≡ slice_get xs i
read_at [] i x early is = absurd (omega arith)
read_at (y ∷ xs) zero x early is = ap Some is
read_at (y ∷ xs) (suc i) x early is = read_at xs i x (omega arith) is

pub other_light : (parts : SigParts) (t : Tree) (g : SymId) (ys : List Tree) (i : ℕ) (y : Tree) → weight parts t < 2 ^ 64 → t ≡ App g ys → Some y ≡ slice_get ys i
    → weight parts y < 2 ^ 64
other_light parts t g ys i y small is found =
    let h = item_weight parts ys i y found in
    let e = ap (weight parts) is ∙ weight-App parts g ys in
    omega arith

pub item_light : (parts : SigParts) (s : Tree) (f : SymId) (xs : List Tree) (i : ℕ) (x : Tree) → weight parts s < 2 ^ 64 → s ≡ App f xs
    → i < length xs → x ≡ slice_index_or xs i x → weight parts x < 2 ^ 64
item_light parts s f xs i x small is early at = other_light parts s f xs i x small is (read_at xs i x early at)
