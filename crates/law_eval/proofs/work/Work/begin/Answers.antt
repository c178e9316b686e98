use Rattle.std.proofs.Common.{◌∷◌, ◌++◌, [], refl, ap, ap₂, ◌∙◌}
use Rattle.law_ids.specs.Tops.{tops}
use Rattle.law_ids.proofs.Tops.{pushed}
use Rattle.law_eval.specs.Work.{todo_of, running}
use Rattle.law_eval.specs.Work.Todo.{apply}
use Rattle.law_eval.proofs.Tops.{pushed_twice, same_ids}
use Rattle.law_eval.proofs.work.Work.begin.Goals as goal

pub returns-clause-ok : goal.returns-clause-ok
returns-clause-ok c =
    same_ids
    (pushed todo_of _ _ _ c.in_ok-push-3.ensures.items ∙ ap (λ l. apply c.args.sym c.args.count ∷ tops todo_of l) c.clear.ensures.items)
    (pushed_twice (λ row. row.items) _ _ _ _ _ c.in_ok-push.ensures.items c.in_ok-push-2.ensures.items
    ∙ ap₂ (λ last first. last ∷ first ∷ tops (λ row. row.items) c.take_all.new.rows.items)
    (c.in_ok-extend_from_slice.ensures.items ∙ ap (λ l. l ++ c.args.args.now) c.empty_row-row.ensures) c.empty_row.ensures
    ∙ ap (λ rows. c.args.args.now ∷ [] ∷ tops (λ row. row.items) rows) c.take_all.ensures)
    (ap (tops running) c.clear-2.ensures.items)
    refl
