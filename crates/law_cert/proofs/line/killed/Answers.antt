use Rattle.std.proofs.Common.{rules}
use Rattle.law_cert_text.proofs.TailFacts.{no_killed}
use Rattle.law_cert.proofs.line.killed.Goals as goal

pub returns-in-None : goal.returns-in-None
returns-in-None c = no_killed c.args.bytes.now (search rules)
