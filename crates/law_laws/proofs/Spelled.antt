-- The order K compares weights, then heads, then arguments from the left.
use Rattle.std.proofs.Common.{◌≡◌, ℕ, List, [], ◌∷◌, map, nat_cmp, sym, refl, ap, ap₂, ◌∙◌}
use Rattle.std.specs.Ordering.{ordering_then}
use Rattle.std.specs.Cmp.Lexicographic.{slice_cmp}
use Rattle.law_sig.specs.Tests.{weight}
use Rattle.law_sig.specs.Order.{row, rank, rank_cmp, compare_k}
use Rattle.law_sig.specs.declared.tree.SortId.{SortId}
use Rattle.law_sig.specs.declared.tree.SymId.{SymId}
use Rattle.law_sig.specs.declared.tree.Tree.{Tree}
use Rattle.law_sig.specs.declared.tree.Tree.TheVariants.{Var, App, outs-Var, outs-App}
use Rattle.law_sig.specs.declared.tree.Tree.TheViews.{out-Tree}
use Rattle.law_sig.specs.declared.parts.SigParts.{SigParts}
use Rattle.law_laws.specs.Orders.{compare_heads}
use Rattle.law_laws.proofs.TreeFacts.{tree_cases, weight-Var, rank-Var, rank-App}

-- rows are compared as lists
rows_compared : (parts : SigParts) (ss ts : List Tree) → rank_cmp (row (map (rank parts) ss)) (row (map (rank parts) ts)) ≡ slice_cmp (compare_k parts) ss ts
rows_compared parts [] [] = refl
rows_compared parts [] (t ∷ ts) = refl
rows_compared parts (s ∷ ss) [] = refl
rows_compared parts (s ∷ ss) (t ∷ ts) = ap (ordering_then (compare_k parts s t)) (rows_compared parts ss ts)

module _ (parts : SigParts) where
  abbrev IsSpelled : Tree → Tree → Type 0
  IsSpelled s t = compare_k parts s t ≡ ordering_then (nat_cmp (weight parts s) (weight parts t)) (compare_heads parts (out-Tree s) (out-Tree t))

  var_var : (s : SortId) (i : ℕ) (u : SortId) (j : ℕ) → IsSpelled (Var s i) (Var u j)
  var_var s i u j = ap₂ rank_cmp (rank-Var parts s i) (rank-Var parts u j)
      ∙ sym (ap₂ ordering_then (ap₂ nat_cmp (weight-Var parts s i) (weight-Var parts u j)) (ap₂ (compare_heads parts) (outs-Var s i) (outs-Var u j)))

  var_app : (s : SortId) (i : ℕ) (g : SymId) (ts : List Tree) → IsSpelled (Var s i) (App g ts)
  var_app s i g ts = ap₂ rank_cmp (rank-Var parts s i) (rank-App parts g ts)
      ∙ sym (ap₂ ordering_then (ap (λ n. nat_cmp n (weight parts (App g ts))) (weight-Var parts s i)) (ap₂ (compare_heads parts) (outs-Var s i) (outs-App g ts)))

  app_var : (f : SymId) (ss : List Tree) (u : SortId) (j : ℕ) → IsSpelled (App f ss) (Var u j)
  app_var f ss u j = ap₂ rank_cmp (rank-App parts f ss) (rank-Var parts u j)
      ∙ sym (ap₂ ordering_then (ap (nat_cmp (weight parts (App f ss))) (weight-Var parts u j)) (ap₂ (compare_heads parts) (outs-App f ss) (outs-Var u j)))

  app_app : (f : SymId) (ss : List Tree) (g : SymId) (ts : List Tree) → IsSpelled (App f ss) (App g ts)
  app_app f ss g ts = ap₂ rank_cmp (rank-App parts f ss) (rank-App parts g ts)
      ∙ ap (λ x. ordering_then (nat_cmp (weight parts (App f ss)) (weight parts (App g ts))) (ordering_then (nat_cmp f.0 g.0) x)) (rows_compared parts ss ts)
      ∙ sym (ap (ordering_then (nat_cmp (weight parts (App f ss)) (weight parts (App g ts)))) (ap₂ (compare_heads parts) (outs-App f ss) (outs-App g ts)))

  pub k_spelled : (s t : Tree) → IsSpelled s t
  k_spelled = tree_cases (λ s. (t : Tree) → IsSpelled s t)
      (λ s i. tree_cases (IsSpelled (Var s i)) (var_var s i) (var_app s i))
      (λ f ss. tree_cases (IsSpelled (App f ss)) (app_var f ss) (app_app f ss))
