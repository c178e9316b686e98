use Rattle.std.proofs.Common.{◌≡◌, suc, []}
use Rattle.law_sig.specs.Tests.{first_of}
use Rattle.law_sig.specs.Counts.{lists_at}
use Rattle.law_sig.proofs.counts.empty_lists.Given as goal

abbrev pub invariant-loop : goal.invariant-loop
invariant-loop l = l.lists ≡ first_of (suc l.counter) (λ w. lists_at [] [] w)
