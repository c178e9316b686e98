use Rattle.std.proofs.Common.{rules}
use Rattle.law_cert_text.proofs.PartFacts.{no_number}
use Rattle.law_cert.proofs.part.next_number.Goals as goal

pub returns-in-None-number : goal.returns-in-None-number
returns-in-None-number c = no_number c.args.bytes.now c.in-Some.word.now c.in-Some.behind.now c.in-Some.ensures (search rules)
