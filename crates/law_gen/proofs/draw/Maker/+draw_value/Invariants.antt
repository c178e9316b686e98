use Rattle.std.proofs.Common.{◌≡◌, ◌+◌, ◌-◌, map, drop}
use Rattle.law_sig.specs.Lists.{total}
use Rattle.law_sig.specs.Trees.{node_count}
use Rattle.law_ids.specs.Values.{IsOf, tree_of, trees_of}
use Rattle.law_draws.specs.Draws.{value_drawn, in_turn}
use Rattle.law_gen.proofs.Turns.{Going}
use Rattle.law_gen.proofs.draw.Maker.+draw_value.Given as goal

abbrev pub decreases-draw_value : goal.decreases-draw_value
decreases-draw_value l = l.height

abbrev pub invariant-loop-field_sort : goal.invariant-loop-field_sort
invariant-loop-field_sort l = record {
  going : Going IsOf tree_of (value_drawn l.self.sig.now (l.height - 1)) (in_turn (value_drawn l.self.sig.now (l.height - 1)) l.field_sort-items l.initial.draws.rng)
      l.initial.bank l.bank l.fields (drop l.field_sort-index l.field_sort-items) l.draws.rng;
  room : l.initial.draws.room ≡ total (map node_count (trees_of l.bank l.fields)) + l.draws.room;
}
