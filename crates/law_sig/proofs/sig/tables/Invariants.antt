use Rattle.law_sig.specs.Table.{HasRows}
use Rattle.law_sig.proofs.sig.tables.Given as goal

abbrev pub invariant-loop-at : goal.invariant-loop-at
invariant-loop-at l = HasRows l.parts l.at l.table
