use Rattle.std.proofs.Common.{rules}
use Rattle.law_cert_text.proofs.TailFacts.{no_values, values_found}
use Rattle.law_cert.proofs.line.values.Goals as goal

pub returns-in-None : goal.returns-in-None
returns-in-None c = no_values c.args.bytes.now c.args.behind.now c.requires (search rules)

pub returns-in-Some : goal.returns-in-Some
returns-in-Some c = values_found c.args.bytes.now c.args.behind.now c.in-Some.sort c.in-Some.values c.requires (search rules)
