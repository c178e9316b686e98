use Rattle.law_schema.specs.Rules.{AreBetween}
use Rattle.law_schema.proofs.rules.symbol_rules.Given as goal

abbrev pub invariant-loop-number : goal.invariant-loop-number
invariant-loop-number l = AreBetween l.sig 0 l.number l.rules
