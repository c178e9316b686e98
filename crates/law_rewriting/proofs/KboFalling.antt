-- What is greater in the Knuth-Bendix order has instances that are greater in K.
use Rattle.std.proofs.Common.{◌≡◌, ℕ, ◌+◌, ◌-◌, ◌≤◌, ◌<◌, ◌==◌, ◌&&◌, ◌⊎◌, inl, inr, Bool, true, false, if◌then◌else◌, List, [], ◌∷◌, ◌++◌, map, Less, sym, refl, ap, ap₂, ◌∙◌, subst₂, arith, eqb-true, eq-eqb}
use Rattle.law_sig.specs.Lists.{Each, total}
use Rattle.law_sig.specs.Trees.{same_sort, joined, holes, Subst, substituted}
use Rattle.law_sig.specs.Tests.{weight}
use Rattle.law_sig.specs.Order.{num, pair, row, ranked, rank, compare_k}
use Rattle.law_sig.specs.declared.tree.SymId.{SymId}
use Rattle.law_sig.specs.declared.tree.Tree.{Tree}
use Rattle.law_sig.specs.declared.tree.Tree.TheVariants.{App}
use Rattle.law_sig.specs.declared.parts.SigParts.{SigParts}
use Rattle.law_laws.specs.Orders.{WeighsSomething}
use Rattle.law_laws.proofs.TreeFacts.{tree_induct, tree_cases, fold-Var, fold-App, weight-Var, weight-App, substituted-Var, substituted-App, rank-App}
use Rattle.law_laws.proofs.Sorts.{same_sort_is, same_sort_itself, both_true}
use Rattle.law_laws.proofs.Ranks.{Below, below_less}
use Rattle.law_laws.proofs.Orders.{lighter}
use Rattle.law_sig.specs.Kbo.{times, HasVarsOf, Kbo}
use Rattle.law_sig.specs.Kbo.Kbo.{heavier, symbol, argument}
use Rattle.law_rewriting.proofs.Vars.{Variable, vars, vars_step, indices, holes_are}

-- How often a variable stands in a list

abbrev same_variable : Variable → Variable → Bool
same_variable v u = same_sort u.0 v.0 && (u.1 == v.1)

same_is : (v u : Variable) → same_variable v u ≡ true → u ≡ v
same_is v u e = let p = both_true (same_sort u.0 v.0) (u.1 == v.1) e in λ i. (same_sort_is u.0 v.0 p.0 i, eqb-true u.1 v.1 p.1 i)

same_itself : (v : Variable) → same_variable v v ≡ true
same_itself v = ap₂ ◌&&◌ (same_sort_itself v.0) (eq-eqb v.1 v.1 refl)

abbrev count : Variable → List Variable → ℕ
count v [] = 0
count v (u ∷ us) = if same_variable v u then 1 + count v us else count v us

counted : (v : Variable) (us : List Variable) → times v.1 (indices v.0 us) ≡ count v us
counted v [] = refl
counted v (u ∷ us) = by (same_sort u.0 v.0) (counted v us)
  where
    one : (b : Bool) → times v.1 (indices v.0 us) ≡ count v us → (if b then 1 + times v.1 (indices v.0 us) else times v.1 (indices v.0 us)) ≡ (if b then 1 + count v us else count v us)
    one true ih = ap (λ n. 1 + n) ih
    one false ih = ih

    by : (a : Bool) → times v.1 (indices v.0 us) ≡ count v us
        → times v.1 (if a then u.1 ∷ indices v.0 us else indices v.0 us) ≡ (if a && (u.1 == v.1) then 1 + count v us else count v us)
    by true ih = one (u.1 == v.1) ih
    by false ih = ih

-- Sums over variables, where each stands in one list at least as often as in another

abbrev sum_of : (Variable → ℕ) → List Variable → ℕ
sum_of e vs = total (map e vs)

-- without the first of these
abbrev without : Variable → List Variable → List Variable
without v [] = []
without v (u ∷ us) = if same_variable v u then us else u ∷ without v us

abbrev once : Variable → Variable → ℕ
once v u = if same_variable v u then 1 else 0

count_more : (v u : Variable) (us : List Variable) → count v (u ∷ us) ≡ once v u + count v us
count_more v u us = by (same_variable v u)
  where
    by : (b : Bool) → (if b then 1 + count v us else count v us) ≡ (if b then 1 else 0) + count v us
    by true = refl
    by false = omega arith

sum_without : (e : Variable → ℕ) (v : Variable) (us : List Variable) → 1 ≤ count v us → sum_of e us ≡ e v + sum_of e (without v us)
sum_without e v [] h = absurd (omega (arith, h))
sum_without e v (u ∷ us) h = by (same_variable v u) refl h (sum_without e v us)
  where
    by : (b : Bool) → same_variable v u ≡ b → 1 ≤ (if b then 1 + count v us else count v us) → (1 ≤ count v us → sum_of e us ≡ e v + sum_of e (without v us))
        → e u + sum_of e us ≡ e v + sum_of e (if b then us else u ∷ without v us)
    by true q k ih = ap (λ x. e x + sum_of e us) (same_is v u q)
    by false q k ih = let r = ih k in omega (arith, r)

count_without : (v x : Variable) (us : List Variable) → 1 ≤ count v us → count x us ≡ once x v + count x (without v us)
count_without v x [] h = absurd (omega (arith, h))
count_without v x (u ∷ us) h = by (same_variable v u) refl h (count_without v x us)
  where
    by : (b : Bool) → same_variable v u ≡ b → 1 ≤ (if b then 1 + count v us else count v us) → (1 ≤ count v us → count x us ≡ once x v + count x (without v us))
        → count x (u ∷ us) ≡ once x v + count x (if b then us else u ∷ without v us)
    by true q k ih = count_more x u us ∙ ap (λ y. once x y + count x us) (same_is v u q)
    by false q k ih = let m = count_more x u us in let n = count_more x u (without v us) in let r = ih k in omega (arith, m, n, r)

sum_upto : (e : Variable → ℕ) (xs ys : List Variable) → ((v : Variable) → count v ys ≤ count v xs) → sum_of e ys ≤ sum_of e xs
sum_upto e xs [] h = omega arith
sum_upto e xs (y ∷ ys) h =
    let c : count y (y ∷ ys) ≡ 1 + count y ys = ap (λ b. if b then 1 + count y ys else count y ys) (same_itself y) in
    let a = h y in
    let k : 1 ≤ count y xs = omega (arith, a, c) in
    let r = sum_upto e (without y xs) ys (λ v. let a = count_without y v xs k in let b = count_more v y ys in let d = h v in omega (arith, d, a, b)) in
    let s = sum_without e y xs k in
    omega (arith, r, s)

sum_append : (e : Variable → ℕ) (us vs : List Variable) → sum_of e (us ++ vs) ≡ sum_of e us + sum_of e vs
sum_append e [] vs = omega arith
sum_append e (u ∷ us) vs = let h = sum_append e us vs in omega (arith, h)

-- The weight of an instance is that of the term and what each variable adds

module _ (parts : SigParts) (something : WeighsSomething parts) (σ : Subst) where
  some_weight : (t : Tree) → 1 ≤ weight parts t
  some_weight = tree_cases (λ t. 1 ≤ weight parts t) (λ s i. let e = weight-Var parts s i in omega (arith, e))
      (λ f args. let e = weight-App parts f args in let w = something f in omega (arith, e, w))

  abbrev excess : Variable → ℕ
  excess v = weight parts (σ v.0 v.1) - 1

  abbrev Grows : Tree → Type 0
  Grows t = weight parts (substituted σ t) ≡ weight parts t + sum_of excess (vars t)

  all_grow : (ts : List Tree) → Each Grows ts → total (map (weight parts) (map (substituted σ) ts)) ≡ total (map (weight parts) ts) + sum_of excess (joined (map vars ts))
  all_grow [] have = refl
  all_grow (t ∷ ts) have =
      let a = have.0 in let r = all_grow ts have.1 in let c = sum_append excess (vars t) (joined (map vars ts)) in omega (arith, a, r, c)

  grows : (t : Tree) → Grows t
  grows = tree_induct Grows
      (λ s i.
      let a = ap (weight parts) (substituted-Var σ s i) in let b = weight-Var parts s i in
      let c = ap (sum_of excess) (fold-Var (List Variable) vars_step s i) in let d = some_weight (σ s i) in omega (arith, a, b, c, d))
      (λ f ts have.
      let a = ap (weight parts) (substituted-App σ f ts) in let b = weight-App parts f (map (substituted σ) ts) in let c = weight-App parts f ts in
      let d = ap (sum_of excess) (fold-App (List Variable) vars_step f ts) in let e = all_grow ts have in omega (arith, a, b, c, d, e))

  -- a term whose variables are the other's, and as often, weighs no more in an instance than the weights say
  adds_no_more : (s t : Tree) → HasVarsOf s t → sum_of excess (vars t) ≤ sum_of excess (vars s)
  adds_no_more s t h = sum_upto excess (vars s) (vars t) (λ v. subst₂ ◌≤◌ (as_count v t) (as_count v s) (h v.0 v.1))
    where
      as_count : (v : Variable) (u : Tree) → times v.1 (holes v.0 u) ≡ count v (vars u)
      as_count v u = ap (times v.1) (holes_are v.0 u) ∙ counted v (vars u)

  abbrev Falls : Tree → Tree → Type 0
  Falls t s = Below (rank parts (substituted σ t)) (rank parts (substituted σ s))

  -- two applications of one weight, by what decides between them
  apps_fall : (f g : SymId) (ss ts : List Tree) → HasVarsOf (App f ss) (App g ts) → weight parts (App f ss) ≡ weight parts (App g ts)
      → (g.0 < f.0) ⊎ ((g.0 ≡ f.0) × Below (row (map (rank parts) (map (substituted σ) ts))) (row (map (rank parts) (map (substituted σ) ss)))) → Falls (App g ts) (App f ss)
  apps_fall f g ss ts h w decides = subst₂ Below
      (sym (ap (rank parts) (substituted-App σ g ts) ∙ rank-App parts g (map (substituted σ) ts)))
      (sym (ap (rank parts) (substituted-App σ f ss) ∙ rank-App parts f (map (substituted σ) ss))) (by (weights (grows (App f ss)) (grows (App g ts)) (adds_no_more (App f ss) (App g ts) h)))
    where
      split : (m n : ℕ) → m ≤ n → (m < n) ⊎ (m ≡ n)
      split m n h = grind arith

      weights : Grows (App f ss) → Grows (App g ts) → sum_of excess (vars (App g ts)) ≤ sum_of excess (vars (App f ss))
          → (weight parts (App g (map (substituted σ) ts)) < weight parts (App f (map (substituted σ) ss))) ⊎ (weight parts (App g (map (substituted σ) ts)) ≡ weight parts (App f (map (substituted σ) ss)))
      weights a b d =
          let x = ap (weight parts) (substituted-App σ f ss) in let y = ap (weight parts) (substituted-App σ g ts) in
          split (weight parts (App g (map (substituted σ) ts))) (weight parts (App f (map (substituted σ) ss))) (omega (arith, a, b, d, x, y, w))

      by : (weight parts (App g (map (substituted σ) ts)) < weight parts (App f (map (substituted σ) ss))) ⊎ (weight parts (App g (map (substituted σ) ts)) ≡ weight parts (App f (map (substituted σ) ss)))
          → Below (ranked (weight parts (App g (map (substituted σ) ts))) 1 g.0 (row (map (rank parts) (map (substituted σ) ts))))
          (ranked (weight parts (App f (map (substituted σ) ss))) 1 f.0 (row (map (rank parts) (map (substituted σ) ss))))
      by (inl less) = inl less
      by (inr e) = inr (ap num e, inr (refl, last decides))
        where
          last : (g.0 < f.0) ⊎ ((g.0 ≡ f.0) × Below (row (map (rank parts) (map (substituted σ) ts))) (row (map (rank parts) (map (substituted σ) ss))))
              → Below (pair (num g.0) (row (map (rank parts) (map (substituted σ) ts)))) (pair (num f.0) (row (map (rank parts) (map (substituted σ) ss))))
          last (inl less) = inl less
          last (inr (e, k)) = inr (ap num e, k)

  row_falls : (before : List Tree) (s t : Tree) (ss ts : List Tree) → Falls t s
      → Below (row (map (rank parts) (map (substituted σ) (before ++ t ∷ ts)))) (row (map (rank parts) (map (substituted σ) (before ++ s ∷ ss))))
  row_falls [] s t ss ts h = inl h
  row_falls (b ∷ before) s t ss ts h = inr (refl, row_falls before s t ss ts h)

  kbo_below : {s t : Tree} → Kbo parts s t → Falls t s
  kbo_below (heavier s t h w) =
      let a = grows s in let b = grows t in let d = adds_no_more s t h in lighter parts (substituted σ t) (substituted σ s) (omega (arith, a, b, d, w))
  kbo_below (symbol f g ss ts h w less) = apps_fall f g ss ts h w (inl less)
  kbo_below (argument f before s t ss ts h w k) = apps_fall f f (before ++ s ∷ ss) (before ++ t ∷ ts) h w (inr (refl, row_falls before s t ss ts (kbo_below k)))

pub kbo_falls : (parts : SigParts) → WeighsSomething parts → (s t : Tree) → Kbo parts s t → (σ : Subst) → compare_k parts (substituted σ t) (substituted σ s) ≡ Less
kbo_falls parts something s t h σ = below_less (rank parts (substituted σ t)) (rank parts (substituted σ s)) (kbo_below parts something σ h)
