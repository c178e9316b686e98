use Rattle.std.proofs.Common.{◌≤◌}
use Rattle.law_types.specs.Valued.{AreLeft, IsFound}
use Rattle.law_types.proofs.valued.look_at_all.Given as goal

abbrev pub invariant-loop-symbol : goal.invariant-loop-symbol
invariant-loop-symbol l = record {
  found : IsFound l.text l.found.has.items l.found.queue.items;
  left : AreLeft l.text l.found.has.items (λ number. l.symbol-index ≤ number) l.found.queue.items;
}
