use Rattle.std.proofs.Common.{rules}
use Rattle.law_cert_text.proofs.TailFacts.{no_moved}
use Rattle.law_cert.proofs.line.moved.Goals as goal

pub returns-in-None : goal.returns-in-None
returns-in-None c = no_moved c.args.bytes.now (search rules)
