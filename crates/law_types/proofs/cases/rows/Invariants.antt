use Rattle.law_types.specs.Rows.{HasRows}
use Rattle.law_types.proofs.cases.rows.Given as goal

abbrev pub invariant-loop-at : goal.invariant-loop-at
invariant-loop-at l = HasRows l.text l.at l.rows
