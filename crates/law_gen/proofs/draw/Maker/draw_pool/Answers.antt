use Rattle.std.proofs.Common.{ℕ, ◌+◌, ◌<◌, map, length, drop, sym, refl, ◌∙◌, subst, arith}
use Rattle.law_sig.specs.Lists.{Each}
use Rattle.law_sig.specs.declared.tree.SortId.{SortId}
use Rattle.law_ids.specs.Values.{AreOf, trees_of}
use Rattle.law_ids.proofs.Reading.{ids_keep}
use Rattle.law_draws.specs.Draws.{values_drawn, pool_drawn, sorts_of}
use Rattle.law_draws.specs.Sizes.{AreSmall, HasLarge}
use Rattle.law_draws.proofs.First.{first_from, first_past}
use Rattle.law_gen.proofs.Turns.{going_here, going_more, going_last, each_means}
use Rattle.law_gen.proofs.PoolFacts.{first_in, length_more, large_at}
use Rattle.law_ids.proofs.BankFacts.{length_map}
use Rattle.law_gen.proofs.draw.Maker.draw_pool.Goals as goal

abbrev id_of : ℕ → SortId
id_of n = record { 0 = n }

pub returns-in-Err-TooLarge-clause-large : goal.returns-in-Err-TooLarge-clause-large
returns-in-Err-TooLarge-clause-large c =
    let below : c.loop-at.at < length c.args.self.now.sig.now.sort_names = omega (arith, c.sorts-at-end.ensures) in
    let here = going_here AreOf trees_of (values_drawn c.args.self.now.sig.now c.args.height) (pool_drawn c.args.self.now.sig.now c.args.height c.args.draws.now.rng) c.args.bank.now c.loop-at.bank c.loop-at.sorts (id_of c.loop-at.at) (drop c.loop-at.at (sorts_of c.args.self.now.sig.now)) (drop (c.loop-at.at + 1) (sorts_of c.args.self.now.sig.now)) c.loop-at.draws.rng c.loop-at.invariant.going (first_from (length c.args.self.now.sig.now.sort_names) id_of c.loop-at.at below) in (
      refl,
      first_in (pool_drawn c.args.self.now.sig.now c.args.height c.args.draws.now.rng).made (map (trees_of c.loop-at.bank) c.loop-at.sorts) _ (values_drawn c.args.self.now.sig.now c.args.height (id_of c.loop-at.at) c.loop-at.draws.rng).made (id_of c.loop-at.at) here
          (length_map (trees_of c.loop-at.bank) c.loop-at.sorts ∙ c.loop-at.invariant.count)
          (large_at (HasLarge (values_drawn c.args.self.now.sig.now c.args.height (id_of c.loop-at.at) c.loop-at.draws.rng).made) c.in-Err-TooLarge.field-0 c.in-Err-TooLarge.field-0-is c.in-Err-TooLarge.ensures.large) c.loop-at.invariant.small,
    )

pub loop-at-preserved : goal.loop-at-preserved
loop-at-preserved c =
    let below : c.loop-at.at < length c.args.self.now.sig.now.sort_names = omega (arith, c.sorts-at-end.ensures) in
    record {
      going = going_more AreOf trees_of (values_drawn c.args.self.now.sig.now c.args.height) ids_keep (pool_drawn c.args.self.now.sig.now c.args.height c.args.draws.now.rng) c.args.bank.now c.loop-at.bank c.draw_values.new.bank c.loop-at.sorts c.push.new.self c.in-Ok.values (id_of c.loop-at.at) (drop c.loop-at.at (sorts_of c.args.self.now.sig.now)) (drop (c.loop-at.at + 1) (sorts_of c.args.self.now.sig.now))
          c.loop-at.draws.rng c.draw_values.new.draws.rng c.loop-at.invariant.going (first_from (length c.args.self.now.sig.now.sort_names) id_of c.loop-at.at below) c.draw_values.ensures.grows c.in-Ok.ensures.made.held c.in-Ok.ensures.made.made
          c.in-Ok.ensures.made.after c.in-Ok-push.ensures.ok;
      small = each_means AreOf trees_of ids_keep AreSmall c.loop-at.bank c.draw_values.new.bank c.loop-at.sorts c.push.new.self c.in-Ok.values c.loop-at.invariant.going.held c.draw_values.ensures.grows
          c.in-Ok-push.ensures.ok c.loop-at.invariant.small (subst AreSmall (sym c.in-Ok.ensures.made.made) c.in-Ok.ensures.small);
      count = length_more c.loop-at.sorts c.push.new.self c.in-Ok.values c.loop-at.at c.in-Ok-push.ensures.ok c.loop-at.invariant.count;
    }

pub returns-clause-made : goal.returns-clause-made
returns-clause-made c =
    let past : c.loop-at.at < length c.args.self.now.sig.now.sort_names → ⊥ = λ h. omega (arith, c.sorts-at-end.ensures) in
    let last = going_last AreOf trees_of (values_drawn c.args.self.now.sig.now c.args.height) (pool_drawn c.args.self.now.sig.now c.args.height c.args.draws.now.rng) c.args.bank.now c.loop-at.bank c.loop-at.sorts (drop c.loop-at.at (sorts_of c.args.self.now.sig.now)) c.loop-at.draws.rng c.loop-at.invariant.going
    (first_past (length c.args.self.now.sig.now.sort_names) id_of c.loop-at.at past) in
    record { held = c.loop-at.invariant.going.held; made = sym last.0; after = sym last.1 }

pub returns-clause-small : goal.returns-clause-small
returns-clause-small c =
    let past : c.loop-at.at < length c.args.self.now.sig.now.sort_names → ⊥ = λ h. omega (arith, c.sorts-at-end.ensures) in
    let last = going_last AreOf trees_of (values_drawn c.args.self.now.sig.now c.args.height) (pool_drawn c.args.self.now.sig.now c.args.height c.args.draws.now.rng) c.args.bank.now c.loop-at.bank c.loop-at.sorts (drop c.loop-at.at (sorts_of c.args.self.now.sig.now)) c.loop-at.draws.rng c.loop-at.invariant.going
    (first_past (length c.args.self.now.sig.now.sort_names) id_of c.loop-at.at past) in
    subst (Each AreSmall) (sym last.0) c.loop-at.invariant.small
