use Rattle.std.proofs.Common.{refl, ap, ◌∙◌, ◌∷◌}
use Rattle.law_eval.specs.Work.{todo_of}
use Rattle.law_ids.specs.Tops.{tops}
use Rattle.law_eval.proofs.Tops.{pushed_twice, same_ids}
use Rattle.law_ids.proofs.Tops.{pushed}
use Rattle.law_eval.proofs.work.Work.gather.Goals as goal

pub returns-clause-ok : goal.returns-clause-ok
returns-clause-ok c =
    same_ids (pushed_twice todo_of _ _ _ _ _ c.in_ok-push-2.ensures.items c.in_ok-push-3.ensures.items)
    (pushed (λ row. row.items) _ _ _ c.in_ok-push.ensures.items ∙ ap (λ l. l ∷ tops (λ row. row.items) c.args.self.now.rows.items) c.empty_row.ensures) refl refl
