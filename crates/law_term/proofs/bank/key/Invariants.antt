use Rattle.std.proofs.Common.{◌≡◌, ◌++◌, drop}
use Rattle.law_bank.specs.Terms.{ids_of}
use Rattle.law_term.specs.Keys.{key}
use Rattle.law_term.proofs.bank.key.Given as goal

abbrev pub invariant-loop-arg : goal.invariant-loop-arg
invariant-loop-arg l = l.numbers.items ++ ids_of (drop l.arg-index l.args) ≡ key l.fn.head (ids_of l.args)
