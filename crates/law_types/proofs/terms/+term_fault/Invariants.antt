use Rattle.std.proofs.Common.{◌≡◌, drop}
use Rattle.law_typing.proofs.TermFacts.{args_fault}
use Rattle.law_types.proofs.terms.+term_fault.Given as goal

abbrev pub invariant-loop-at : goal.invariant-loop-at
invariant-loop-at l = args_fault l.text l.scope (drop l.at l.sorts) (drop l.at l.arg-items) ≡ args_fault l.text l.scope l.sorts l.arg-items
