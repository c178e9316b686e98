use Rattle.std.proofs.Common.{◌≡◌, length}
use Rattle.law_sig.specs.Tests.{first_of}
use Rattle.law_sig.specs.Counts.{stopped, terms_at}
use Rattle.law_sig.proofs.counts.next_row.Given as goal

abbrev pub invariant-loop-sort : goal.invariant-loop-sort
invariant-loop-sort l = l.row ≡ first_of l.sort (λ sort. stopped (terms_at l.sig l.rows (length l.rows) (record { 0 = sort })))
