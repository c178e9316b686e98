use Rattle.std.proofs.Common.{◌≡◌}
use Rattle.law_draws.specs.Choices.{table_of}
use Rattle.law_gen.proofs.choices.choices_up_to.Given as goal

abbrev pub invariant-loop-below : goal.invariant-loop-below
invariant-loop-below l = l.levels ≡ table_of l.sig l.below
