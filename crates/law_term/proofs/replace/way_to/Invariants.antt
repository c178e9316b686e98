use Rattle.std.proofs.Common.{drop}
use Rattle.law_term.proofs.Placing.{GoesBy}
use Rattle.law_term.proofs.replace.way_to.Given as goal

abbrev pub invariant-loop-number : goal.invariant-loop-number
invariant-loop-number l = GoesBy l.bank l.term l.place l.way.items l.here.term.now (drop l.number-index l.place)
