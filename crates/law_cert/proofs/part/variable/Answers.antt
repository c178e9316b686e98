use Rattle.std.proofs.Common.{rules}
use Rattle.law_cert_text.proofs.ArgFacts.{no_index, not_variable}
use Rattle.law_cert.proofs.part.variable.Goals as goal

pub returns-then-not-is_name : goal.returns-then-not-is_name
returns-then-not-is_name c = not_variable c.args.word.now c.in-Some.sort.now c.in-Some.digits.now c.is_name.result c.in-Some.ensures c.is_name.ensures (search rules)

pub returns-in-None-index : goal.returns-in-None-index
returns-in-None-index c = no_index c.args.word.now c.in-Some.sort.now c.in-Some.digits.now c.in-Some.ensures (search rules)
