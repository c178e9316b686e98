use Rattle.std.proofs.Common.{rules}
use Rattle.law_cert_text.proofs.ArgFacts.{not_atom}
use Rattle.law_cert.proofs.part.atom.Goals as goal

pub returns-then-has_args : goal.returns-then-has_args
returns-then-has_args c = not_atom c.args.bytes.now c.in-Some.found c.has_args.result (search rules) (search rules) c.has_args.ensures c.if-has_args.true
