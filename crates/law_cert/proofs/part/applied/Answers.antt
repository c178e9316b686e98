use Rattle.std.proofs.Common.{rules}
use Rattle.law_cert_text.proofs.ArgFacts.{not_applied}
use Rattle.law_cert.proofs.part.applied.Goals as goal

pub returns-else-has_args : goal.returns-else-has_args
returns-else-has_args c = not_applied c.args.bytes.now c.in-Some.found c.has_args.result (search rules) (search rules) c.has_args.ensures c.if-has_args.false
