use Rattle.std.proofs.Common.{◌≡◌, ◌++◌}
use Rattle.law_test.specs.Words.{number_bytes}
use Rattle.law_test.proofs.words.push_number.Given as goal

abbrev pub decreases-loop-rest : goal.decreases-loop-rest
decreases-loop-rest l = l.rest

abbrev pub invariant-loop-rest : goal.invariant-loop-rest
invariant-loop-rest l = l.made.items ++ number_bytes l.rest ≡ l.initial.made.items ++ number_bytes l.number
