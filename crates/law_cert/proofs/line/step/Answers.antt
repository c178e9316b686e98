use Rattle.std.proofs.Common.{rules}
use Rattle.law_cert_text.proofs.TailFacts.{no_step_move}
use Rattle.law_cert.proofs.line.step.Goals as goal

pub returns-in-None-2 : goal.returns-in-None-2
returns-in-None-2 c = no_step_move c.args.bytes.now c.in-Some.behind.now c.in-Some.pos (search rules) (search rules)
