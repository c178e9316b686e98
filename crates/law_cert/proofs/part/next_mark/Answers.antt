use Rattle.std.proofs.Common.{rules}
use Rattle.law_cert_text.proofs.PartFacts.{no_mark}
use Rattle.law_cert.proofs.part.next_mark.Goals as goal

pub returns-in-None-mark_of : goal.returns-in-None-mark_of
returns-in-None-mark_of c = no_mark c.args.bytes.now c.in-Some.word.now c.in-Some.behind.now c.in-Some.ensures (search rules)
