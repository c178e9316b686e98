use Rattle.std.proofs.Common.{◌≡◌, take}
use Rattle.law_schema.specs.Spreads.{live_counts}
use Rattle.law_schema.proofs.stock.live_counts.Given as goal

abbrev pub invariant-loop-number : goal.invariant-loop-number
invariant-loop-number l = l.counts ≡ live_counts l.spreads (take l.number-index l.numbers)
