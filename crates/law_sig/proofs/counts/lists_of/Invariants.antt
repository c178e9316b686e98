use Rattle.std.proofs.Common.{◌≡◌, ◌-◌, suc, length, drop}
use Rattle.law_sig.specs.Tests.{first_of}
use Rattle.law_sig.specs.Counts.{stopped, lists_at}
use Rattle.law_sig.proofs.counts.lists_of.Given as goal

abbrev pub invariant-loop-done : goal.invariant-loop-done
invariant-loop-done l = l.lists ≡ first_of (suc l.fn.weight) (λ w. stopped (lists_at l.rows (drop (length l.sorts - l.done) l.sorts) w))
