use Rattle.std.proofs.Common.{◌≤◌, drop, length}
use Rattle.law_sig.specs.Lists.{In}
use Rattle.law_types.specs.Valued.{AreLeft, IsFound}
use Rattle.law_types.proofs.valued.look_at_takers.Given as goal

abbrev pub invariant-loop-number : goal.invariant-loop-number
invariant-loop-number l = record {
  within : l.from ≤ length l.found.queue.items;
  found : IsFound l.text l.found.has.items l.found.queue.items;
  left : AreLeft l.text l.found.has.items (λ n. In n (drop l.number-index l.row)) (drop l.from l.found.queue.items);
}
