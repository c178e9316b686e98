use Rattle.law_cli.proofs.AnswerFacts.{refused}
use Rattle.law_cli.proofs.plain.of_lines.Goals as goal
use Rattle.law_cli.specs.declared.status.Status.TheVariants as status
use Rattle.law_cli.specs.declared.status.FormKind.TheVariants as form
use Rattle.law_lines.specs.Spelling.{sig_spelling}
use Rattle.std.proofs.Common.{refl, subst, Err}
use Rattle.law_typing.specs.LineFaults.{TellsFault, first_fault}
use Rattle.law_typing.specs.declared.errors.TypeErr.{TypeErr}
use Rattle.law_sig.specs.declared.parts.SigParts.{SigParts}

pub returns-in-Err-At : goal.returns-in-Err-At
returns-in-Err-At c = refused (sig_spelling c.args.raw) (status.Form c.in-Err-At.line (form.Sort c.in-Err-At.kind)) c.refusal.result
    (record { lines = c.args.raw; text = record { raw = c.requires; spelled = refl }; fault = subst (λ (e : TypeErr). TellsFault {A = SigParts} (Err e) (first_fault c.args.raw)) c.in-Err-At.field-0-is c.in-Err-At.ensures.first }) c.refusal.ensures
