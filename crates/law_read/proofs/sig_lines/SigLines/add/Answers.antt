use Rattle.std.proofs.Common.{rules, subst}
use Rattle.std.specs.Prelude.{Some}
use Rattle.law_places.specs.Progress.{Added, Progress, RefusedAt}
use Rattle.law_places.proofs.Grown.{added, grown, no_reading, refused_now}
use Rattle.law_read.proofs.sig_lines.SigLines.add.Goals as goal

pub invariant_of-self : goal.invariant_of-self
invariant_of-self c =
    grown c.self.inside.stage c.after-stage.result c.self.inside.lines c.push.new.self c.in-Ok.raw c.args.line.now c.self.invariant c.in-Ok.ensures c.after-stage.ensures c.in-Ok-push.ensures.ok

pub returns-in-Ok-push-clause-ok : goal.returns-in-Ok-push-clause-ok
returns-in-Ok-push-clause-ok c =
    let new : Progress = record { lines = c.push.new.self; refused = c.self.inside.refused } in
    subst (λ old. Added old new c.args.line.now c.is_closed.result) c.self.view_is
    (added c.self.inside.stage c.after-stage.result c.self.inside.lines c.push.new.self c.self.inside.refused c.in-Ok.raw c.args.line.now c.is_closed.result
    c.self.invariant c.in-Ok.ensures c.after-stage.ensures c.in-Ok-push.ensures.ok (search rules) c.is_closed.ensures)

pub returns-in-Err-Form-clause-err : goal.returns-in-Err-Form-clause-err
returns-in-Err-Form-clause-err c =
    let number = c.next_number-number.result in
    let new : Progress = record { lines = c.self.inside.lines; refused = Some (number, c.in-Err-Form.kind) } in
    subst (λ old. RefusedAt old new c.args.line.now number c.in-Err-Form.kind) c.self.view_is
    (refused_now c.self.inside.lines c.self.inside.refused c.args.line.now number c.in-Err-Form.kind
    (no_reading c.self.inside.stage c.self.inside.lines c.args.line.now c.in-Err-Form.kind c.self.invariant (search rules)) (search rules) (search rules))
