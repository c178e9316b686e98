use Rattle.std.proofs.Common.{subst}
use Rattle.law_lines.specs.Reads.{Stops}
use Rattle.law_lines.specs.Walk.{term_fault}
use Rattle.law_places.proofs.TextReads.{term_refused}
use Rattle.law_read.proofs.read.read_term.Goals as goal

pub returns-in-Err-Form-clause-form : goal.returns-in-Err-Form-clause-form
returns-in-Err-Form-clause-form c =
    term_refused c.args.bytes.now c.in-Err-Form.kind (subst (λ stop. Stops stop (term_fault c.args.bytes.now)) c.in-Err-Form.field-0-is c.in-Err-Form.ensures)
