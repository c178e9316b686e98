use Rattle.std.proofs.Common.{sym, ap, subst}
use Rattle.law_eval.specs.Work.{Todo, ids_of, todo_of}
use Rattle.law_eval.specs.Runs.{Stuck, seen}
use Rattle.law_eval.specs.Took.{Took, on_top}
use Rattle.law_ids.proofs.ResultFacts.{on_ok}
use Rattle.law_eval.proofs.TookFacts.{built_took, spread_taken}
use Rattle.law_eval.proofs.StuckFacts.{build_stuck}
use Rattle.law_eval.proofs.steps.step.Goals as goal

pub returns-in-Each-clause-took : goal.returns-in-Each-clause-took
returns-in-Each-clause-took c = on_ok _ _ c.spread.result
    (λ spread. subst (λ (t : Todo). Took c.args.sig.now c.args.bank.now c.args.bank.now (on_top t (ids_of c.args.work.now)) (ids_of c.spread.new.self)) (sym (ap todo_of c.in-Each.is))
    (spread_taken c.args.sig.now c.args.bank.now c.in-Each.bodies.now (ids_of c.args.work.now) (ids_of c.spread.new.self) spread
    (subst (λ (t : Todo). Rattle.law_eval.specs.Took.IsSound c.args.bank.now (on_top t (ids_of c.args.work.now))) (ap todo_of c.in-Each.is) c.requires.sound)))
    c.spread.ensures.ok

pub returns-in-Build-clause-took : goal.returns-in-Build-clause-took
returns-in-Build-clause-took c = on_ok _ _ c.build.result
    (λ built. subst (λ (t : Todo). Took c.args.sig.now c.args.bank.now c.build.new.bank (on_top t (ids_of c.args.work.now)) (ids_of c.build.new.work)) (sym (ap todo_of c.in-Build.is))
    (built_took c.args.sig.now c.args.bank.now c.build.new.bank c.in-Build.sym c.in-Build.count (ids_of c.args.work.now) (ids_of c.build.new.work) built c.build.ensures.grows
    (subst (λ (t : Todo). Rattle.law_eval.specs.Took.IsSound c.args.bank.now (on_top t (ids_of c.args.work.now))) (ap todo_of c.in-Build.is) c.requires.sound)))
    c.build.ensures.ok

pub returns-in-Build-clause-over : goal.returns-in-Build-clause-over
returns-in-Build-clause-over c = λ over.
    subst (λ (t : Todo). Stuck c.args.sig.now (seen c.args.bank.now (on_top t (ids_of c.args.work.now)))) (sym (ap todo_of c.in-Build.is))
    (build_stuck c.args.sig.now c.args.bank.now c.in-Build.sym c.in-Build.count (ids_of c.args.work.now) (c.build.ensures.over over))
