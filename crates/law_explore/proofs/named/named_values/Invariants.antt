use Rattle.std.proofs.Common.{◌≡◌, ◌++◌, drop}
use Rattle.law_explore.specs.Named.{named_values}
use Rattle.law_explore.proofs.named.named_values.Given as goal

abbrev pub invariant-loop-at : goal.invariant-loop-at
invariant-loop-at l = l.found ++ named_values l.sig l.at (drop l.at l.pool) ≡ named_values l.sig 0 l.pool
