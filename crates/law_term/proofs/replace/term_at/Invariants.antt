use Rattle.std.proofs.Common.{drop}
use Rattle.law_term.proofs.Placing.{GoesOn}
use Rattle.law_term.proofs.replace.term_at.Given as goal

abbrev pub invariant-loop-number : goal.invariant-loop-number
invariant-loop-number l = GoesOn l.term (l.number-items) l.here.term.now (drop l.number-index l.number-items)
