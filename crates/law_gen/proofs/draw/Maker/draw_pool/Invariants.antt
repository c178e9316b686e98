use Rattle.std.proofs.Common.{◌≡◌, drop, length, map}
use Rattle.law_sig.specs.Lists.{Each}
use Rattle.law_ids.specs.Values.{AreOf, trees_of}
use Rattle.law_draws.specs.Draws.{values_drawn, pool_drawn, sorts_of}
use Rattle.law_draws.specs.Sizes.{AreSmall}
use Rattle.law_gen.proofs.Turns.{Going}
use Rattle.law_gen.proofs.draw.Maker.draw_pool.Given as goal

abbrev pub invariant-loop-at : goal.invariant-loop-at
invariant-loop-at l = record {
  going : Going AreOf trees_of (values_drawn l.self.sig.now l.height) (pool_drawn l.self.sig.now l.height l.initial.draws.rng)
      l.initial.bank l.bank l.sorts (drop l.at (sorts_of l.self.sig.now)) l.draws.rng;
  small : Each AreSmall (map (trees_of l.bank) l.sorts);
  count : length l.sorts ≡ l.at;
}
