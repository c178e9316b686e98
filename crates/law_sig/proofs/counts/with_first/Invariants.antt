use Rattle.std.proofs.Common.{◌≡◌, ◌-◌, ◌*◌, suc, slice_index_or}
use Rattle.law_sig.specs.Lists.{total}
use Rattle.law_sig.specs.Tests.{first_of}
use Rattle.law_sig.specs.Counts.{stopped, count_at}
use Rattle.law_sig.proofs.counts.with_first.Given as goal

abbrev pub invariant-loop-weight : goal.invariant-loop-weight
invariant-loop-weight l = l.lists ≡ first_of l.weight (λ w. stopped (total (first_of (suc w) (λ first. count_at l.rows first l.sort * slice_index_or l.rest (w - first) 0))))
