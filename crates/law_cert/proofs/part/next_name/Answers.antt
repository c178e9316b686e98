use Rattle.law_cert_text.proofs.PartFacts.{no_name, not_name}
use Rattle.law_cert.proofs.part.next_name.Goals as goal

pub returns-else-is_name : goal.returns-else-is_name
returns-else-is_name c =
    no_name c.args.bytes.now c.in-Some.word.now c.in-Some.behind.now c.in-Some.ensures (not_name c.in-Some.word.now c.is_name.result c.is_name.ensures c.if-is_name.false)
