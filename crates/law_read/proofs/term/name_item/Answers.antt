use Rattle.std.proofs.Common.{rules}
use Rattle.law_lines.proofs.RowSteps.{mark_read}
use Rattle.law_places.proofs.RowNames.{name_read}
use Rattle.law_read.proofs.term.name_item.Goals as goal

pub returns-then-is_mark : goal.returns-then-is_mark
returns-then-is_mark c =
    mark_read c.args.nodes c.args.row 0 c.args.count c.args.ending c.args.line.now.left c.want.new.line.left c.in-Some-Word.bytes.now (search rules) (search rules) (search rules) (search rules)

pub returns : goal.returns
returns c =
    name_read c.args.nodes c.args.row c.args.count c.args.ending c.args.line.now.left c.want.new.line.left c.in-Some-Word.bytes.now c.in_ok-owned-in-Some-Word.field-0
    c.requires (record { first = search rules; text = search rules; taken = search rules }) (search rules) c.in_ok-owned-in-Some-Word.ensures
