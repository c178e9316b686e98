use Rattle.std.proofs.Common.{◌≡◌, ◌+◌, take}
use Rattle.law_sig.specs.Lists.{total}
use Rattle.law_sig.specs.Counts.{stopped}
use Rattle.law_sig.proofs.counts.with_row.Given as goal

abbrev pub invariant-loop-number : goal.invariant-loop-number
invariant-loop-number l = l.sum ≡ stopped (l.count + total (take l.number-index l.row))
