use Rattle.std.proofs.Common.{◌≡◌, ℕ, drop, length, map}
use Rattle.law_sig.specs.Lists.{Each}
use Rattle.law_sig.specs.Tests.{first_of}
use Rattle.law_ids.specs.Values.{AreOf, trees_of}
use Rattle.law_ids.specs.Table.{pools_of}
use Rattle.law_draws.specs.Draws.{pool_drawn, pools_drawn, generator_of}
use Rattle.law_draws.specs.Sizes.{AreSmall}
use Rattle.law_gen.proofs.Turns.{Going}
use Rattle.law_gen.proofs.draw.Maker.draw_pools.Given as goal

abbrev pub invariant-loop-number : goal.invariant-loop-number
invariant-loop-number l = record {
  going : Going (λ b xs. Each (AreOf b) xs) (λ b xs. map (trees_of b) xs) (λ (number : ℕ). pool_drawn l.self.sig.now l.height)
      (pools_drawn l.self.sig.now l.height l.count (generator_of l.fn.seed))
      l.initial.bank l.bank l.pools (drop l.number (first_of l.count (λ number. number))) l.draws.rng;
  small : Each (Each AreSmall) (pools_of l.bank l.pools);
  count : length l.pools ≡ l.number;
}
