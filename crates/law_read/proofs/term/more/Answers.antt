use Rattle.std.proofs.Common.{rules}
use Rattle.law_lines.proofs.RowSteps.{row_closed, row_at_end}
use Rattle.law_read.proofs.term.more.Goals as goal

pub returns-in-None : goal.returns-in-None
returns-in-None c = row_at_end c.args.nodes c.args.row c.args.level c.args.count c.args.ending c.args.line.now.left c.want.new.line.left (search rules)

pub returns-in-Some-Close : goal.returns-in-Some-Close
returns-in-Some-Close c = row_closed c.args.nodes c.args.row c.args.level c.args.count c.args.ending c.args.line.now.left c.want.new.line.left (search rules)
