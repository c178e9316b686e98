use Rattle.std.proofs.Common.{ℕ, ◌+◌, ◌<◌, List, map, drop, sym, ◌∙◌, subst, arith}
use Rattle.std.proofs.lemmas.Result.{err_from_is_err_and}
use Rattle.rand_pcg.specs.Lcg.{Lcg}
use Rattle.law_sig.specs.Lists.{Each}
use Rattle.law_sig.specs.Tests.{first_of}
use Rattle.law_sig.specs.declared.tree.Tree.{Tree}
use Rattle.law_sig.specs.declared.parts.SigParts.{SigParts}
use Rattle.law_ids.specs.Values.{AreOf, trees_of}
use Rattle.law_ids.specs.Table.{pools_of}
use Rattle.law_ids.proofs.Reading.{sorts_keep}
use Rattle.law_draws.specs.Draws.{Drawn, pool_drawn, pools_drawn, generator_of}
use Rattle.law_draws.specs.Sizes.{AreSmall}
use Rattle.law_draws.proofs.First.{first_from, first_past}
use Rattle.law_gen.proofs.Turns.{going_here, going_more, going_last, each_means}
use Rattle.law_gen.proofs.PoolFacts.{first_of_all, length_more, too_large_on}
use Rattle.law_ids.proofs.BankFacts.{length_map}
use Rattle.law_gen.proofs.draw.Maker.draw_pools.Goals as goal

abbrev pool_by : SigParts → ℕ → ℕ → Lcg → Drawn (List (List Tree))
pool_by parts height number = pool_drawn parts height

abbrev numbers : ℕ → List ℕ
numbers count = first_of count (λ n. n)

pub returns-in_err-pool-clause-large : goal.returns-in_err-pool-clause-large
returns-in_err-pool-clause-large c =
    let p = err_from_is_err_and c.from_residual.result c.from_residual.ensures.1 in
    let here = going_here (λ b xs. Each (AreOf b) xs) (λ b xs. map (trees_of b) xs) (pool_by c.args.self.now.sig.now c.args.height) (pools_drawn c.args.self.now.sig.now c.args.height c.args.count (generator_of c.args.seed)) c.args.bank.now c.loop-number.bank c.loop-number.pools c.loop-number.number (drop c.loop-number.number (numbers c.args.count)) (drop (c.loop-number.number + 1) (numbers c.args.count)) c.loop-number.draws.rng c.loop-number.invariant.going (first_from c.args.count (λ n. n) c.loop-number.number c.loop-number-test.true) in
    rw (p.1, p.2) (too_large_on _ _ (λ pool sort h. first_of_all (pools_drawn c.args.self.now.sig.now c.args.height c.args.count (generator_of c.args.seed)).made (pools_of c.loop-number.bank c.loop-number.pools) _ (pool_drawn c.args.self.now.sig.now c.args.height c.loop-number.draws.rng).made pool sort here
    (length_map (map (trees_of c.loop-number.bank)) c.loop-number.pools ∙ c.loop-number.invariant.count ∙ sym h.0) h.1 c.loop-number.invariant.small) c.in_err-pool.field-0.0 c.in_err-pool.ensures.large)

pub loop-number-preserved : goal.loop-number-preserved
loop-number-preserved c = record {
  going = going_more (λ b xs. Each (AreOf b) xs) (λ b xs. map (trees_of b) xs) (pool_by c.args.self.now.sig.now c.args.height) sorts_keep (pools_drawn c.args.self.now.sig.now c.args.height c.args.count (generator_of c.args.seed)) c.args.bank.now c.loop-number.bank c.draw_pool.new.bank c.loop-number.pools c.push.new.self c.in_ok-pool.pool c.loop-number.number (drop c.loop-number.number (numbers c.args.count)) (drop (c.loop-number.number + 1) (numbers c.args.count))
      c.loop-number.draws.rng c.draw_pool.new.draws.rng c.loop-number.invariant.going (first_from c.args.count (λ n. n) c.loop-number.number c.loop-number-test.true) c.draw_pool.ensures.grows c.in_ok-pool.ensures.made.held c.in_ok-pool.ensures.made.made
      c.in_ok-pool.ensures.made.after c.in-Ok.ensures.ok;
  small = each_means (λ b xs. Each (AreOf b) xs) (λ b xs. map (trees_of b) xs) sorts_keep (Each AreSmall) c.loop-number.bank c.draw_pool.new.bank c.loop-number.pools c.push.new.self c.in_ok-pool.pool c.loop-number.invariant.going.held c.draw_pool.ensures.grows
      c.in-Ok.ensures.ok c.loop-number.invariant.small (subst (Each AreSmall) (sym c.in_ok-pool.ensures.made.made) c.in_ok-pool.ensures.small);
  count = length_more c.loop-number.pools c.push.new.self c.in_ok-pool.pool c.loop-number.number c.in-Ok.ensures.ok c.loop-number.invariant.count;
}

pub returns-clause-made : goal.returns-clause-made
returns-clause-made c =
    let past : c.loop-number.number < c.args.count → ⊥ = λ h. omega (arith, c.loop-number-test.false) in
    let last = going_last (λ b xs. Each (AreOf b) xs) (λ b xs. map (trees_of b) xs) (pool_by c.args.self.now.sig.now c.args.height) (pools_drawn c.args.self.now.sig.now c.args.height c.args.count (generator_of c.args.seed)) c.args.bank.now c.loop-number.bank c.loop-number.pools (drop c.loop-number.number (numbers c.args.count)) c.loop-number.draws.rng c.loop-number.invariant.going
    (first_past c.args.count (λ n. n) c.loop-number.number past) in
    sym last.0

pub returns-clause-small : goal.returns-clause-small
returns-clause-small c =
    let past : c.loop-number.number < c.args.count → ⊥ = λ h. omega (arith, c.loop-number-test.false) in
    let last = going_last (λ b xs. Each (AreOf b) xs) (λ b xs. map (trees_of b) xs) (pool_by c.args.self.now.sig.now c.args.height) (pools_drawn c.args.self.now.sig.now c.args.height c.args.count (generator_of c.args.seed)) c.args.bank.now c.loop-number.bank c.loop-number.pools (drop c.loop-number.number (numbers c.args.count)) c.loop-number.draws.rng c.loop-number.invariant.going
    (first_past c.args.count (λ n. n) c.loop-number.number past) in
    subst (Each (Each AreSmall)) (sym last.0) c.loop-number.invariant.small
