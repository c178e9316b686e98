use Rattle.std.proofs.Common.{◌≡◌, ℕ, zero, suc, refl, ◌+◌, ◌<◌, ◌⊎◌, inl, inr, sym, ap, subst, arith}
use Rattle.law_sig.specs.declared.tree.SortId.{SortId}
use Rattle.law_ids.specs.Table.{ReadsOnePlace}
use Rattle.law_pool.proofs.pools.Pools.is_flat.Goals as goal

abbrev id_of : ℕ → SortId
id_of n = record { 0 = n }

pub returns-then-not-reads_one_place : goal.returns-then-not-reads_one_place
returns-then-not-reads_one_place c parts for =
    ((λ e. cc), (λ flat. (c.if-not-reads_one_place.ensures parts for).1 (flat (id_of c.loop-at.at))))

below_next : (n m : ℕ) → n < m + 1 → (n < m) ⊎ (n ≡ m)
below_next n zero h = inr (omega arith)
below_next zero (suc m) h = inl (omega arith)
below_next (suc n) (suc m) h = next (below_next n m (omega arith))
  where
    next : (n < m) ⊎ (n ≡ m) → (suc n < suc m) ⊎ (suc n ≡ suc m)
    next (inl k) = inl (omega arith)
    next (inr k) = inr (ap suc k)

pub loop-at-preserved : goal.loop-at-preserved
loop-at-preserved c parts for sort h = by (below_next sort.0 c.loop-at.at h)
  where
    by : (sort.0 < c.loop-at.at) ⊎ (sort.0 ≡ c.loop-at.at) → ReadsOnePlace parts c.args.test sort
    by (inl k) = c.loop-at.invariant parts for sort k
    by (inr k) = subst (ReadsOnePlace parts c.args.test) (ap id_of (sym k)) ((c.if-not-reads_one_place.ensures parts for).0 refl)
