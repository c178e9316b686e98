use Rattle.law_places.proofs.LineSteps.{line_read, line_stops}
use Rattle.law_read.proofs.line.read_line.Goals as goal

pub returns-in-Ok : goal.returns-in-Ok
returns-in-Ok c =
    line_read c.args.stage c.args.bytes.now c.new-line.result.left c.word.new.line.left c.in_ok-first.first.now c.in-Some.key c.in-Ok.raw
    c.new-line.ensures.whole c.in_ok-first.ensures c.in-Some.ensures c.in-Ok.ensures

pub returns-in-Err : goal.returns-in-Err
returns-in-Err c =
    line_stops c.args.stage c.args.bytes.now c.new-line.result.left c.word.new.line.left c.in_ok-first.first.now c.in-Some.key c.in-Err.stop
    c.new-line.ensures.whole c.in_ok-first.ensures c.in-Some.ensures c.in-Err.ensures
