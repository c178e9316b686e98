use Rattle.std.proofs.Common.{rules}
use Rattle.law_cert_text.proofs.PartFacts.{no_pos}
use Rattle.law_cert.proofs.part.next_pos.Goals as goal

pub returns-in-None-2 : goal.returns-in-None-2
returns-in-None-2 c = no_pos c.args.bytes.now c.in-Some.word.now c.in-Some.behind.now c.in-Some.ensures (search rules)
