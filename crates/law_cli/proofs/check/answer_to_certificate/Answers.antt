use Rattle.std.proofs.Common.{subst}
use Rattle.law_cert_text.specs.Readers.{HasHeard, NotWhole}
use Rattle.law_cli.specs.declared.status.FormKind.TheVariants as form
use Rattle.law_cli.specs.declared.status.Status.TheVariants as status
use Rattle.law_cert_text.proofs.Joined.{not_whole}
use Rattle.law_cli.proofs.AnswerFacts.{check_refused, whole_answer}
use Rattle.law_cli.proofs.check.answer_to_certificate.Goals as goal

pub returns-in-Ok : goal.returns-in-Ok
returns-in-Ok c = whole_answer c.of_certificate.result c.args.reader c.in-Ok.cert c.in-Ok.ensures.ok c.of_certificate.ensures

pub returns-in-Err-Form : goal.returns-in-Err-Form
returns-in-Err-Form c = check_refused (HasHeard c.args.reader) (status.Form c.in-Err-Form.line form.Certificate) c.refusal.result
    (λ bytes heard. not_whole c.args.reader c.in-Err-Form.line bytes (subst (NotWhole c.args.reader) c.in-Err-Form.field-0-is c.in-Err-Form.ensures.err) heard) c.refusal.ensures
