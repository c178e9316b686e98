use Rattle.std.proofs.Common.{◌≡◌}
use Rattle.law_sig.specs.Tests.{first_of}
use Rattle.law_sig.proofs.counts.no_terms.Given as goal

abbrev pub invariant-loop : goal.invariant-loop
invariant-loop l = l.row ≡ first_of l.counter (λ sort. 0)
