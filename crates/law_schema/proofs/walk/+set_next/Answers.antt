use Rattle.law_schema.proofs.Making.{row_long}
use Rattle.law_schema.proofs.walk.+set_next.Goals as goal

pub returns-then-row-choices : goal.returns-then-row-choices
returns-then-row-choices t c = λ fits is y y_is above. c.if-row-choices.true (row_long c.args.choices.now c.args.weight c.args.row.now is)
