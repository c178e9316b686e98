use Rattle.std.proofs.Common.{rules}
use Rattle.law_cert_text.proofs.Stuck.{draft_stuck, line_stuck}
use Rattle.law_cert.proofs.PhaseFacts.{bodied_more}
use Rattle.law_cert.proofs.phase.bodied.Goals as goal

pub returns-in-None : goal.returns-in-None
returns-in-None c = λ going. line_stuck c.args.sig c.args.draft c.args.line.now c.requires.0 (search rules)

pub returns-in-None-2 : goal.returns-in-None-2
returns-in-None-2 c = λ going. draft_stuck c.args.sig c.args.draft c.in-Some.line c.args.line.now c.requires.0 c.requires.1 (search rules) (search rules) (search rules)

pub returns-in-Some-2 : goal.returns-in-Some-2
returns-in-Some-2 c = bodied_more c.args.sig c.args.draft c.in-Some-2.draft c.in-Some.line c.args.line.now c.requires (search rules) (search rules) (search rules) (search rules)
