use Rattle.std.proofs.Common.{rules}
use Rattle.law_cert_text.proofs.ArgFacts.{no_bind_term, no_bind_variable}
use Rattle.law_cert.proofs.part.next_bind.Goals as goal

pub returns-in-None-variable : goal.returns-in-None-variable
returns-in-None-variable c = no_bind_variable c.args.bytes.now c.in-Some.word.now c.in-Some.behind.now c.in-Some.ensures (search rules)

pub returns-in-None-2 : goal.returns-in-None-2
returns-in-None-2 c = no_bind_term c.args.bytes.now c.in-Some.word.now c.in-Some.behind.now c.in-Some.ensures (search rules)
