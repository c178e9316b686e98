use Rattle.std.proofs.Common.{rules}
use Rattle.law_places.proofs.RowNames.{root_named, root_leaf, root_stops, leaf_stops}
use Rattle.law_read.proofs.term.term.Goals as goal

pub returns-in-Ok : goal.returns-in-Ok
returns-in-Ok c =
    root_named c.args.place c.args.ending c.args.line.now.left c.word.new.line.left c.args-then-is_word_of_letters.new.line.left c.in_ok-bytes.bytes.now c.in_ok-text.text
    c.in-Ok.args c.in-Ok.field-0-1 c.requires c.in_ok-bytes.ensures (search rules) c.in_ok-text.ensures c.in-Ok.ensures

pub returns-in-Err : goal.returns-in-Err
returns-in-Err c =
    root_stops c.args.place c.args.ending c.args.line.now.left c.word.new.line.left c.in_ok-bytes.bytes.now c.in-Err.stop c.in_ok-bytes.ensures (search rules) c.in-Err.ensures

pub returns-in-Ok-behind : goal.returns-in-Ok-behind
returns-in-Ok-behind c =
    root_leaf c.args.place c.args.ending c.args.line.now.left c.word.new.line.left c.behind.new.line.left c.in_ok-bytes.bytes.now c.in_ok-head.head c.new.result
    c.in_ok-bytes.ensures (search rules) c.in_ok-head.ensures c.new.ensures c.in-Ok-behind.ensures

pub returns-in-Err-behind : goal.returns-in-Err-behind
returns-in-Err-behind c =
    leaf_stops c.args.place c.args.ending c.args.line.now.left c.word.new.line.left c.in_ok-bytes.bytes.now c.in-Err-behind.stop c.in_ok-bytes.ensures (search rules) c.in-Err-behind.ensures
