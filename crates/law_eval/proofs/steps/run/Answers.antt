use Rattle.std.proofs.Common.{◌≡◌, ◌<◌, refl, sym, subst}
use Rattle.law_eval.specs.Work.{Ids, ids_of, todo_of}
use Rattle.law_eval.specs.Runs.{Stuck, seen}
use Rattle.law_eval.specs.Took.{IsSound, Took, on_top, steps_left}
use Rattle.law_ids.proofs.ResultFacts.{passed}
use Rattle.law_eval.proofs.Tops.{same_ids}
use Rattle.law_ids.proofs.Tops.{pushed}
use Rattle.law_eval.proofs.Chain.{run_on, run_stuck}
use Rattle.law_eval.proofs.steps.run.Goals as goal

pub step-requires-clause-sound : goal.step-requires-clause-sound
step-requires-clause-sound c = subst (IsSound c.loop-task.bank) (same_ids (pushed todo_of _ _ _ c.in-Some.ensures.items) refl refl refl) c.loop-task.invariant.sound

pub loop-task-smaller : goal.loop-task-smaller
loop-task-smaller c =
    let popped : ids_of c.loop-task.work ≡ on_top (todo_of c.in-Some.task) (ids_of (record c.loop-task.work { tasks = c.pop.new.self })) = same_ids (pushed todo_of _ _ _ c.in-Some.ensures.items) refl refl refl in
    subst (λ (i : Ids). steps_left (ids_of c.step.new.work) < steps_left i) (sym popped) c.in_ok-step.ensures.took.falls

pub loop-task-preserved : goal.loop-task-preserved
loop-task-preserved c =
    let popped : ids_of c.loop-task.work ≡ on_top (todo_of c.in-Some.task) (ids_of (record c.loop-task.work { tasks = c.pop.new.self })) = same_ids (pushed todo_of _ _ _ c.in-Some.ensures.items) refl refl refl in
    run_on c.args.sig.now c.args.bank.now c.loop-task.bank c.step.new.bank (ids_of c.args.work.now) (ids_of c.loop-task.work) (ids_of c.step.new.work) c.loop-task.invariant
    (subst (λ (i : Ids). Took c.args.sig.now c.loop-task.bank c.step.new.bank i (ids_of c.step.new.work)) (sym popped) c.in_ok-step.ensures.took) c.step.ensures.grows

pub returns-in_err-step-clause-over : goal.returns-in_err-step-clause-over
returns-in_err-step-clause-over c = λ over.
    let popped : ids_of c.loop-task.work ≡ on_top (todo_of c.in-Some.task) (ids_of (record c.loop-task.work { tasks = c.pop.new.self })) = same_ids (pushed todo_of _ _ _ c.in-Some.ensures.items) refl refl refl in
    run_stuck c.args.sig.now c.args.bank.now c.loop-task.bank (ids_of c.args.work.now) (ids_of c.loop-task.work) c.loop-task.invariant
    (subst (λ (i : Ids). Stuck c.args.sig.now (seen c.loop-task.bank i)) (sym popped) (c.in_err-step.ensures.over (passed _ _ _ _ c.from_residual.ensures.1 over)))
