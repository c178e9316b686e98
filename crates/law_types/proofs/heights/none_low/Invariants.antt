use Rattle.std.proofs.Common.{◌≡◌, false, replicate}
use Rattle.law_types.proofs.heights.none_low.Given as goal

abbrev pub invariant-loop-at : goal.invariant-loop-at
invariant-loop-at l = l.lows.items ≡ replicate l._at false
