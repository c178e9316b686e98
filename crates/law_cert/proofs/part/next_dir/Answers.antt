use Rattle.std.proofs.Common.{rules}
use Rattle.law_cert_text.proofs.PartFacts.{no_dir}
use Rattle.law_cert.proofs.part.next_dir.Goals as goal

pub returns-in-None-dir_of : goal.returns-in-None-dir_of
returns-in-None-dir_of c = no_dir c.args.bytes.now c.in-Some.word.now c.in-Some.behind.now c.in-Some.ensures (search rules)
