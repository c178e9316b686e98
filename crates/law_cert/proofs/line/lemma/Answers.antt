use Rattle.std.proofs.Common.{rules}
use Rattle.law_cert_text.proofs.TailFacts.{no_lemma_sides}
use Rattle.law_cert.proofs.line.lemma.Goals as goal

pub returns-in-None-2 : goal.returns-in-None-2
returns-in-None-2 c = no_lemma_sides c.args.bytes.now c.in-Some.behind.now c.in-Some.number c.in-Some.ensures (search rules)
