use Rattle.std.proofs.Common.{◌≡◌, []}
use Rattle.law_sig.specs.Tests.{first_of}
use Rattle.law_gen.proofs.choices.no_choices.Given as goal

abbrev pub invariant-loop : goal.invariant-loop
invariant-loop l = l.level ≡ first_of l.counter (λ n. [])
