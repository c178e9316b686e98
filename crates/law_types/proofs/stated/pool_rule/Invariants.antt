use Rattle.std.proofs.Common.{◌≡◌, drop}
use Rattle.law_typing.specs.Stated.{stated_rule}
use Rattle.law_types.proofs.stated.pool_rule.Given as goal

abbrev pub invariant-loop-at : goal.invariant-loop-at
invariant-loop-at l = stated_rule l.text (drop l.at l.lines) ≡ stated_rule l.text l.lines
