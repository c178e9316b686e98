use Rattle.law_places.proofs.LineSteps.{values_read}
use Rattle.law_read.proofs.line.value_row.Goals as goal

pub returns-in-Ok : goal.returns-in-Ok
returns-in-Ok c = values_read c.args.line.now.left c.args-2.new.line.left c.in-Ok.values c.in-Ok.field-0-1 c.in-Ok.ensures
