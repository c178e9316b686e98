use Rattle.std.proofs.Common.{rules}
use Rattle.law_cert_text.proofs.TailFacts.{no_class}
use Rattle.law_cert.proofs.line.class.Goals as goal

pub returns-else-len-gt0 : goal.returns-else-len-gt0
returns-else-len-gt0 c = no_class c.args.bytes.now c.in-Some.found (search rules) (search rules)
