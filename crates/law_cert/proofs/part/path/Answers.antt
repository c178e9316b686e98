use Rattle.std.proofs.Common.{rules}
use Rattle.law_cert_text.proofs.RowFacts.{path_last, path_next, path_stops}
use Rattle.law_cert.proofs.part.path.Goals as goal

pub returns-in-None : goal.returns-in-None
returns-in-None c = path_stops c.args.word.now c.loop-digits.rest.now c.in-Some.digits.now c.in-Some.more.now c.loop-digits.numbers c.loop-digits.invariant c.in-Some.ensures (search rules)

pub loop-digits-preserved : goal.loop-digits-preserved
loop-digits-preserved c =
    path_next c.args.word.now c.loop-digits.rest.now c.in-Some.digits.now c.in-Some.more.now c.loop-digits.numbers c.push.new.self c.in-Some-index.number c.loop-digits.invariant c.in-Some.ensures
    (search rules) (search rules) (search rules)

pub returns-in-None-index : goal.returns-in-None-index
returns-in-None-index c = path_last c.args.word.now c.loop-digits.rest.now c.loop-digits.numbers c.loop-digits.invariant (search rules) (search rules)
