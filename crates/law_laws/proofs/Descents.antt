-- Where every symbol weighs something, the order of exploring is well-founded.
use Rattle.std.proofs.Common.{◌≡◌, ℕ, zero, suc, ◌+◌, ◌*◌, ◌≤◌, ◌⊎◌, inl, inr, List, [], ◌∷◌, map, slice_index_or, refl, sym, subst, subst₂, arith}
use Rattle.law_sig.specs.Lists.{Each, total}
use Rattle.law_sig.specs.Trees.{schema_of}
use Rattle.law_sig.specs.WellFormed.{IsBetween, IsWellFormed}
use Rattle.law_sig.specs.Tests.{weight}
use Rattle.law_sig.specs.Order.{Rank, row, ranked, rank, explore_rank, IsBefore}
use Rattle.law_sig.specs.declared.tree.SymId.{SymId}
use Rattle.law_sig.specs.declared.tree.Tree.{Tree}
use Rattle.law_sig.specs.declared.tree.Tree.TheVariants.{App}
use Rattle.law_sig.specs.declared.parts.SigParts.{SigParts}
use Rattle.law_laws.specs.Orders.{WeighsSomething}
use Rattle.law_laws.proofs.TreeFacts.{tree_induct, weight-Var, weight-App, rank-Var, rank-App}
use Rattle.law_laws.proofs.ListFacts.{each_map}
use Rattle.law_laws.proofs.Ranks.{Below, extent, induct, Spreads, less_below}
use Rattle.law_laws.proofs.Orders.{schema_weight, before_weight, before_decided, never_before_itself, before_chain}

-- what holds of each number of a list and of the default holds of the number at any place
pub at_any_place : (P : ℕ → Type 0) (ns : List ℕ) (place default : ℕ) → Each P ns → P default → P (slice_index_or ns place default)
at_any_place P [] place default have at_default = at_default
at_any_place P (n ∷ ns) zero default have at_default = have.0
at_any_place P (n ∷ ns) (suc place) default have at_default = at_any_place P ns place default have.1 at_default

pub weighs_something : (parts : SigParts) → IsWellFormed parts → WeighsSomething parts
weighs_something parts well f = at_any_place (λ n. 1 ≤ n) parts.settings.weights f.0 1
    (each_map (IsBetween 1 4) (λ n. 1 ≤ n) (λ n h. h.0) parts.settings.weights well.settings.weights.in_range) (omega arith)

module _ (parts : SigParts) (weighs : WeighsSomething parts) where
  pub rank_extent : (t : Tree) → extent (rank parts t) + 1 ≤ 4 * weight parts t
  rank_extent = tree_induct (λ t. extent (rank parts t) + 1 ≤ 4 * weight parts t)
      (λ s i. subst₂ (λ x n. extent x + 1 ≤ 4 * n) (sym (rank-Var parts s i)) (sym (weight-Var parts s i)) (omega arith))
      (λ f args have. subst (λ x. extent x + 1 ≤ 4 * weight parts (App f args)) (sym (rank-App parts f args)) (whole f args (all args have)))
    where
      all : (ts : List Tree) → Each (λ t. extent (rank parts t) + 1 ≤ 4 * weight parts t) ts
          → extent (row (map (rank parts) ts)) ≤ 4 * total (map (weight parts) ts)
      all [] have = omega arith
      all (t ∷ ts) have =
          let k : extent (row (map (rank parts) ts)) ≤ 4 * total (map (weight parts) ts) = all ts have.1 in
          let l = have.0 in
          omega arith

      whole : (f : SymId) (args : List Tree) → extent (row (map (rank parts) args)) ≤ 4 * total (map (weight parts) args)
          → extent (ranked (weight parts (App f args)) 1 f.0 (row (map (rank parts) args))) + 1 ≤ 4 * weight parts (App f args)
      whole f args k =
          let e = weight-App parts f args in
          let l = weighs f in
          omega arith

  pub explore_extent : (t : Tree) → extent (explore_rank parts t) ≤ 8 * weight parts t
  explore_extent t =
      let k = rank_extent (schema_of t) in
      let l = rank_extent t in
      let e = schema_weight parts t in
      omega arith

  -- what holds of a term where it holds of all that stand before it holds of every term
  pub explore_induct : (P : Tree → Type 0) → ((t : Tree) → ((s : Tree) → IsBefore parts s t → P s) → P t) → (t : Tree) → P t
  explore_induct P step t = induct (Has (weight parts t)) (8 * weight parts t) (spreads (weight parts t)) (explore_rank parts t) (explore_extent t) t (omega arith) refl
    where
      Has : ℕ → Rank → Type 0
      Has n x = (s : Tree) → weight parts s ≤ n → explore_rank parts s ≡ x → P s

      spreads : (n : ℕ) → Spreads (Has n) (8 * n)
      spreads n x small have s s_small e = step s (λ r before.
          let w = before_weight parts r s before in
          let k = explore_extent r in
          have (explore_rank parts r) (omega arith) (subst (Below (explore_rank parts r)) e (less_below (explore_rank parts r) (explore_rank parts s) before)) r (omega arith) refl)

  -- every descent ends
  pub descent_ends : (terms : ℕ → Tree) → (n : ℕ) × (IsBefore parts (terms (suc n)) (terms n) → ⊥)
  descent_ends terms = explore_induct (λ t. (terms : ℕ → Tree) → terms 0 ≡ t → (n : ℕ) × (IsBefore parts (terms (suc n)) (terms n) → ⊥)) step (terms 0) terms refl
    where
      step : (t : Tree) → ((s : Tree) → IsBefore parts s t → (terms : ℕ → Tree) → terms 0 ≡ s → (n : ℕ) × (IsBefore parts (terms (suc n)) (terms n) → ⊥))
          → (terms : ℕ → Tree) → terms 0 ≡ t → (n : ℕ) × (IsBefore parts (terms (suc n)) (terms n) → ⊥)
      step t have terms e = by (before_decided parts (terms 1) (terms 0))
        where
          later : (n : ℕ) × (IsBefore parts (terms (suc (suc n))) (terms (suc n)) → ⊥) → (n : ℕ) × (IsBefore parts (terms (suc n)) (terms n) → ⊥)
          later (n, no_more) = (suc n, no_more)

          by : (terms 1 ≡ terms 0) ⊎ (IsBefore parts (terms 1) (terms 0) ⊎ IsBefore parts (terms 0) (terms 1)) → (n : ℕ) × (IsBefore parts (terms (suc n)) (terms n) → ⊥)
          by (inl same) = (0, λ h. never_before_itself parts (terms 0) (subst (λ x. IsBefore parts x (terms 0)) same h))
          by (inr (inl h)) = later (have (terms 1) (subst (IsBefore parts (terms 1)) e h) (λ n. terms (suc n)) refl)
          by (inr (inr h)) = (0, λ k. never_before_itself parts (terms 0) (before_chain parts (terms 0) (terms 1) (terms 0) h k))
