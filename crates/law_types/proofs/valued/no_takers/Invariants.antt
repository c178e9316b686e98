use Rattle.std.proofs.Common.{◌≡◌, length}
use Rattle.law_types.proofs.valued.no_takers.Given as goal

abbrev pub invariant-loop-at : goal.invariant-loop-at
invariant-loop-at l = length l.table.items ≡ l._at
