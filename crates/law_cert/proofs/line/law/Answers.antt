use Rattle.std.proofs.Common.{rules}
use Rattle.law_cert_text.proofs.TailFacts.{no_law_mark, no_law_sides}
use Rattle.law_cert.proofs.line.law.Goals as goal

pub returns-in-None-next_mark : goal.returns-in-None-next_mark
returns-in-None-next_mark c = no_law_mark c.args.bytes.now c.in-Some.behind.now c.in-Some.number c.in-Some.ensures c.in-None-next_mark.ensures

pub returns-in-None-2 : goal.returns-in-None-2
returns-in-None-2 c =
    no_law_sides c.args.bytes.now c.in-Some.behind.now c.in-Some-next_mark.rest.now c.in-Some.number c.in-Some-next_mark.mark c.in-Some.ensures c.in-Some-next_mark.ensures (search rules)
