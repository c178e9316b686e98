use Rattle.std.proofs.Common.{rules}
use Rattle.law_cert_text.proofs.ArgFacts.{no_arg, not_behind}
use Rattle.law_cert.proofs.part.next_arg.Goals as goal

pub returns-then-not-is_behind : goal.returns-then-not-is_behind
returns-then-not-is_behind c = not_behind c.args.bytes.now c.in-Some.word.now c.in-Some.behind.now c.is_behind.result c.in-Some.ensures c.is_behind.ensures (search rules)

pub returns-in-None-2 : goal.returns-in-None-2
returns-in-None-2 c = no_arg c.args.bytes.now c.in-Some.word.now c.in-Some.behind.now c.in-Some.ensures (search rules)
