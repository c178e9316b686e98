use Rattle.std.proofs.Common.{◌≡◌, drop}
use Rattle.law_bank.specs.Orders.{first_other}
use Rattle.law_term.proofs.order.first_other.Given as goal

abbrev pub invariant-loop-at : goal.invariant-loop-at
invariant-loop-at l = first_other (drop l.at l.lefts) (drop l.at l.rights) ≡ first_other l.lefts l.rights
