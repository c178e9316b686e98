use Rattle.std.proofs.Common.{◌≡◌, ◌-◌, ◌*◌, slice_index_or}
use Rattle.law_sig.specs.Lists.{total}
use Rattle.law_sig.specs.Tests.{first_of}
use Rattle.law_sig.specs.Counts.{stopped, count_at}
use Rattle.law_sig.proofs.counts.with_first_at.Given as goal

abbrev pub invariant-loop-first : goal.invariant-loop-first
invariant-loop-first l = l.sum ≡ stopped (total (first_of l.first (λ first. count_at l.rows first l.sort * slice_index_or l.rest (l.weight - first) 0)))
