use Rattle.law_places.proofs.Grown.{stops_at}
use Rattle.law_read.proofs.read.read_lines.Goals as goal

pub returns-in-Err-clause-form : goal.returns-in-Err-clause-form
returns-in-Err-clause-form c =
    stops_at c.args.text.now c.loop-line.rest.now c.in-Some.line.now c.in-Some.after.now c.loop-line.reader c.add.new.self c.in-Err.error
    c.loop-line.invariant.parts c.loop-line.invariant.going c.loop-line.invariant.order c.loop-line.invariant.each c.in-Some.ensures c.in-Err.ensures.err
