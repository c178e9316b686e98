use Rattle.std.proofs.Common.{drop}
use Rattle.law_sig.specs.Signature.{width_at}
use Rattle.law_sig.specs.Tests.{first_of}
use Rattle.law_ids.specs.Values.{IsOf, tree_of, trees_of}
use Rattle.law_draws.specs.Draws.{value_drawn, values_drawn}
use Rattle.law_draws.specs.Sizes.{AreSmall}
use Rattle.law_gen.proofs.Turns.{Going}
use Rattle.law_gen.proofs.draw.Maker.draw_values.Given as goal

abbrev pub invariant-loop-place : goal.invariant-loop-place
invariant-loop-place l = record {
  going : Going IsOf tree_of (value_drawn l.self.sig.now l.height) (values_drawn l.self.sig.now l.height l.sort l.initial.draws.rng)
      l.initial.bank l.bank l.values (drop l.place (first_of (width_at l.self.sig.now l.sort) (λ place. l.sort))) l.draws.rng;
  small : AreSmall (trees_of l.bank l.values);
}
