use Rattle.std.proofs.Common.{◌≡◌, ◌-◌, length, Option, Some, None, slice_get, sym, ap, ◌∙◌}
use Rattle.law_ids.specs.declared.ids.ValueId.{ValueId}
use Rattle.law_eval.proofs.Tops.{last_first, first_is}
use Rattle.law_eval.proofs.work.Work.answer.Goals as goal

none_is_some : (x : ValueId) → ◌≡◌ {A = Option ValueId} None (Some x) → ⊥
none_is_some x e = cc

pub returns-in-Some-first-clause-ok : goal.returns-in-Some-first-clause-ok
returns-in-Some-first-clause-ok c =
    let first = last_first (λ row. row.items) c.args.self.now.rows.items c.in-Some.row.now (sym (c.in-Some.ensures.value ∙ ap (λ l. slice_get l (length l - 1)) c.deref.ensures.value)) in
    record { row = c.in-Some.row.now.items; rows = first.0; is = first.1; first = sym (c.in-Some-first.ensures.value ∙ ap (λ l. slice_get l 0) c.deref-2.ensures.value) }

pub returns-in-None-clause-over : goal.returns-in-None-clause-over
returns-in-None-clause-over c = λ _ value answer.
    let first = last_first (λ row. row.items) c.args.self.now.rows.items c.in-Some.row.now (sym (c.in-Some.ensures.value ∙ ap (λ l. slice_get l (length l - 1)) c.deref.ensures.value)) in
    none_is_some value (c.in-None.ensures.value ∙ ap (λ l. slice_get l 0) (c.deref-2.ensures.value ∙ first_is c.in-Some.row.now.items answer.row first.0 answer.rows (sym first.1 ∙ answer.is)) ∙ answer.first)
