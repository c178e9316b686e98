use Rattle.std.proofs.Common.{subst}
use Rattle.law_places.specs.Progress.{Refused}
use Rattle.law_cert.proofs.PhaseFacts.{refused_stuck}
use Rattle.law_cert.proofs.phase.signed.Goals as goal

pub returns-in-Err-Form : goal.returns-in-Err-Form
returns-in-Err-Form c = λ going h.
    refused_stuck c.args.reader c.add.new.self c.args.line.now c.in-Err-Form.field-0-0 c.in-Err-Form.field-0-1 c.requires
    (subst (Refused c.args.reader c.add.new.self c.args.line.now) c.in-Err-Form.field-0-is c.in-Err-Form.ensures.err) h
