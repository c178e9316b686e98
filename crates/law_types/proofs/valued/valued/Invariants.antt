use Rattle.std.proofs.Common.{drop}
use Rattle.law_types.specs.Valued.{AreLeft, IsFound}
use Rattle.law_types.proofs.valued.valued.Given as goal

abbrev pub invariant-loop-at : goal.invariant-loop-at
invariant-loop-at l = record {
  found : IsFound l.text l.found.has.items l.found.queue.items;
  left : AreLeft l.text l.found.has.items (λ number. ⊥) (drop l.at l.found.queue.items);
}
