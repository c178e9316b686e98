use Rattle.std.proofs.Common.{refl, ap, ◌∙◌, sym, length}
use Rattle.law_eval.proofs.Tops.{same_ids, first_is}
use Rattle.law_ids.proofs.Tops.{pushed}
use Rattle.law_eval.proofs.work.Work.take_row.Goals as goal

pub returns-then-len-count-clause-over : goal.returns-then-len-count-clause-over
returns-then-len-count-clause-over c = λ _ row rows e fits. c.if-len-count.true
    (c.len.ensures ∙ c.in-Some.row.ok.0 ∙ ap length (first_is _ row _ rows (sym (pushed (λ r. r.items) _ _ _ c.in-Some.ensures.items) ∙ e)) ∙ fits)

pub returns-clause-ok : goal.returns-clause-ok
returns-clause-ok c = record {
  before = same_ids refl (pushed (λ row. row.items) _ _ _ c.in-Some.ensures.items) refl refl;
  fits = sym c.in-Some.row.ok.0 ∙ sym c.len.ensures ∙ c.if-len-count.false;
}
