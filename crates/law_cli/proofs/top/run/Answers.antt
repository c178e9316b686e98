use Rattle.std.proofs.Common.{rules, Err, inr, ap, ◌∙◌, subst}
use Rattle.law_io.specs.Takings.{GrewByPrefix}
use Rattle.law_cli.proofs.Answered.{answered}
use Rattle.law_cli.proofs.Completeness.{succeeds, never_too_long}
use Rattle.law_cli.proofs.top.run.Goals as goal

pub returns-in-Ok-clause-means : goal.returns-in-Ok-clause-means
returns-in-Ok-clause-means g c =
    let from = c.in-Ok.ensures.answer in
    answered _ _ _ _ _ c.in-Some.asked c.in-Ok.field-0.status c.finish-in-Ok.result from.bytes c.in-Ok.field-0.text c.in-Some.ensures from.read from.answer c.finish-in-Ok.ensures.answer (search rules)

pub returns-in-Ok-clause-complete : goal.returns-in-Ok-clause-complete
returns-in-Ok-clause-complete g c =
    let from = c.in-Ok.ensures.answer in
    succeeds c.answer_laws.ensures.good _ _ _ _ _ _ _ c.in-Some.asked c.in-Ok.field-0.status c.finish-in-Ok.result from.bytes c.in-Ok.field-0.text c.in-Some.ensures from.read from.answer c.finish-in-Ok.ensures.answer
    c.finish-in-Ok.ensures.fault

pub returns-in-Ok-clause-write_fault : goal.returns-in-Ok-clause-write_fault
returns-in-Ok-clause-write_fault g c = λ e.
    let from = c.in-Ok.ensures.answer in
    record {
      rose = c.finish-in-Ok.ensures.fault e;
      text = c.in-Ok.field-0.text;
      planned = inr (c.in-Some.asked, c.in-Some.ensures, inr (from.bytes, from.read, c.in-Ok.field-0.status, from.answer));
      part = subst (GrewByPrefix _ _) c.as_slice.ensures (c.finish-in-Ok.ensures.part e);
    }

pub returns-in-Err-TooLong-clause-complete : goal.returns-in-Err-TooLong-clause-complete
returns-in-Err-TooLong-clause-complete g c = λ can.
    absurd (never_too_long _ _ _ _ _ _ _ c.in-Some.asked c.in-Some.ensures can (c.answer_from.ensures.long (c.in-Err-TooLong.is ∙ ap Err c.in-Err-TooLong.field-0-is)))
