use Rattle.std.proofs.Common.{◌≡◌, ℕ, suc}
use Rattle.law_sig.specs.Tests.{first_of}
use Rattle.law_draws.specs.Draws.{choices}
use Rattle.law_draws.specs.Choices.{level_of}
use Rattle.law_gen.proofs.choices.level_over.Given as goal

abbrev pub invariant-loop-sort : goal.invariant-loop-sort
invariant-loop-sort l = (height : ℕ) → l.below ≡ level_of l.sig height → l.level ≡ first_of l.sort (λ n. choices l.sig (suc height) (record { 0 = n }))
