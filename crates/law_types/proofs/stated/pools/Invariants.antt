use Rattle.std.proofs.Common.{◌≡◌, ◌++◌, drop}
use Rattle.law_typing.specs.Stated.{stated_pools}
use Rattle.law_types.proofs.stated.pools.Given as goal

abbrev pub invariant-loop-at : goal.invariant-loop-at
invariant-loop-at l = l.found ++ stated_pools l.text (drop l.at l.lines) ≡ stated_pools l.text l.lines
