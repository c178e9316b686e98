-- The pools that a signature gives have no large value.
use Rattle.std.proofs.Common.{◌≡◌, ℕ, suc, ◌≤◌, List, [], ◌∷◌, sym, subst}
use Rattle.law_sig.specs.Lists.{Each}
use Rattle.law_sig.specs.Trees.{node_count, depth}
use Rattle.law_sig.specs.WellFormed.{IsWritable, IsValueOf, IsPool, IsPoolFrom, IsPoolRule, IsWellFormed}
use Rattle.law_sig.specs.declared.tree.Tree.{Tree}
use Rattle.law_sig.specs.declared.parts.PoolRule.TheVariants as rule
use Rattle.law_sig.specs.declared.parts.SigParts.{SigParts}
use Rattle.law_laws.proofs.ListFacts.{each_map}
use Rattle.law_draws.specs.Draws.{pools_from, pools_by}
use Rattle.law_draws.specs.Sizes.{AreSmall}

pool_small : (parts : SigParts) (n : ℕ) (pool : List (List Tree)) → IsPoolFrom parts n pool → Each AreSmall pool
pool_small parts n [] h = tt
pool_small parts n (values ∷ pool) h = (
  each_map (λ v. IsValueOf parts (record { 0 = n }) v × IsWritable (node_count v) (depth v)) (λ v. node_count v ≤ 4096) (λ v k. k.1.nodes_bound) values h.0.each,
  pool_small parts (suc n) pool h.1,
)

pub given_small : (parts : SigParts) → IsWellFormed parts → (given : List (List (List Tree))) → parts.settings.pools ≡ rule.Given given → Each (Each AreSmall) (pools_by parts)
given_small parts well given is =
    let rules = subst (IsPoolRule parts) is well.settings.pools in
    subst (λ r. Each (Each AreSmall) (pools_from parts r)) (sym is)
    (each_map (IsPool parts) (λ pool. Each AreSmall pool) (λ pool k. pool_small parts 0 pool k.values) given rules.each_pool)
