use Rattle.std.proofs.Common.{◌≡◌, ℕ, List, ◌∷◌, refl, sym, ap, ◌∙◌, arith}
use Rattle.law_sig.specs.declared.tree.Body.TheOpen as b
use Rattle.law_sig.specs.declared.tree.Body.TheVariants.{rolls-Field, rolls-Param, rolls-Make, rolls-Call}
use Rattle.law_sig.specs.declared.tree.Body.TheViews.{out-Body, out-roll-Body}
use Rattle.law_sig.specs.declared.tree.Body.{Body}
use Rattle.law_eval.specs.Work.{Todo, ids_of}
use Rattle.law_eval.specs.Work.Todo.{each, build, apply}
use Rattle.law_ids.proofs.ResultFacts.{on_ok, passed}
use Rattle.law_eval.proofs.BodyFacts.{nodes-Make, nodes-Call, few_bodies}
use Rattle.law_eval.proofs.TookFacts.{took_by, field_took, param_took, make_took, call_took}
use Rattle.law_eval.proofs.Tops.{same_ids}
use Rattle.law_eval.proofs.StuckFacts.{field_stuck, param_stuck}
use Rattle.law_eval.proofs.steps.eval.Goals as goal

-- the tasks that gathering begins with, by the bodies and their number
gathered : (next : ℕ → Todo) (bodies args : List Body) (count number : ℕ) (tasks : List Todo) → bodies ≡ args → count ≡ number
    → each bodies ∷ next count ∷ tasks ≡ each args ∷ next number ∷ tasks
gathered next bodies args count number tasks e k = λ i. each (e i) ∷ next (k i) ∷ tasks

pub returns-in_err-value-in-Field-clause-over : goal.returns-in_err-value-in-Field-clause-over
returns-in_err-value-in-Field-clause-over c = λ over parts. field_stuck parts c.args.bank.now c.args.body.now (ids_of c.args.work.now) c.in-Field.number
    (ap out-Body (c.in-Field.is ∙ sym (rolls-Field _)) ∙ out-roll-Body _)
    (c.in_err-value-in-Field.ensures.over (passed _ _ _ _ c.from_residual.ensures.1 over))

pub returns-in_err-value-in-Param-clause-over : goal.returns-in_err-value-in-Param-clause-over
returns-in_err-value-in-Param-clause-over c = λ over parts. param_stuck parts c.args.bank.now c.args.body.now (ids_of c.args.work.now) c.in-Param.number
    (ap out-Body (c.in-Param.is ∙ sym (rolls-Param _)) ∙ out-roll-Body _)
    (c.in_err-value-in-Param.ensures.over (passed _ _ _ _ c.from_residual-in_err-value-in-Param.ensures.1 over))

pub overflow_cast-count : goal.overflow_cast-count
overflow_cast-count c =
    let o : out-Body c.args.body.now ≡ b.Make c.in-Make.sym c.in-Make.args = ap out-Body (c.in-Make.is ∙ sym (rolls-Make _ _)) ∙ out-roll-Body _ in
    omega (arith, c.len-count.ensures, few_bodies c.in-Make.args, nodes-Make c.args.body.now c.in-Make.sym c.in-Make.args o, c.requires.tasks.0)

pub overflow_cast-count-in-Call : goal.overflow_cast-count-in-Call
overflow_cast-count-in-Call c =
    let o : out-Body c.args.body.now ≡ b.Call c.in-Call.sym c.in-Call.args = ap out-Body (c.in-Call.is ∙ sym (rolls-Call _ _)) ∙ out-roll-Body _ in
    omega (arith, c.len-count-in-Call.ensures, few_bodies c.in-Call.args, nodes-Call c.args.body.now c.in-Call.sym c.in-Call.args o, c.requires.tasks.0)

pub returns-in_ok-value-in-Field-clause-took : goal.returns-in_ok-value-in-Field-clause-took
returns-in_ok-value-in-Field-clause-took c = on_ok _ _ c.add.result
    (λ added parts. field_took parts c.args.bank.now c.args.body.now c.in-Field.number (ids_of c.args.work.now) (ids_of c.add.new.self) c.in_ok-value-in-Field.value
    (ap out-Body (c.in-Field.is ∙ sym (rolls-Field _)) ∙ out-roll-Body _) c.in_ok-value-in-Field.ensures.ok c.in_ok-value-in-Field.ensures.id added c.requires)
    c.add.ensures.ok

pub returns-in_ok-value-in-Param-clause-took : goal.returns-in_ok-value-in-Param-clause-took
returns-in_ok-value-in-Param-clause-took c = on_ok _ _ c.add-in-Param.result
    (λ added parts. param_took parts c.args.bank.now c.args.body.now c.in-Param.number (ids_of c.args.work.now) (ids_of c.add-in-Param.new.self) c.in_ok-value-in-Param.value
    (ap out-Body (c.in-Param.is ∙ sym (rolls-Param _)) ∙ out-roll-Body _) c.in_ok-value-in-Param.ensures.ok added c.requires)
    c.add-in-Param.ensures.ok

pub returns-in-Make-clause-took : goal.returns-in-Make-clause-took
returns-in-Make-clause-took c = on_ok _ _ c.gather.result
    (λ e parts. took_by parts c.args.bank.now c.args.bank.now refl
    (e ∙ same_ids (gathered (build c.in-Make.sym) _ _ _ _ _ c.as_slice.ensures c.len-count.ensures) refl refl refl)
    (make_took parts c.args.bank.now _ _ _ _ c.args.body.now c.in-Make.sym c.in-Make.args (ap out-Body (c.in-Make.is ∙ sym (rolls-Make _ _)) ∙ out-roll-Body _) c.requires))
    c.gather.ensures.ok

pub returns-in-Call-clause-took : goal.returns-in-Call-clause-took
returns-in-Call-clause-took c = on_ok _ _ c.gather-in-Call.result
    (λ e parts. took_by parts c.args.bank.now c.args.bank.now refl
    (e ∙ same_ids (gathered (apply c.in-Call.sym) _ _ _ _ _ c.as_slice-in-Call.ensures c.len-count-in-Call.ensures) refl refl refl)
    (call_took parts c.args.bank.now _ _ _ _ c.args.body.now c.in-Call.sym c.in-Call.args (ap out-Body (c.in-Call.is ∙ sym (rolls-Call _ _)) ∙ out-roll-Body _) c.requires))
    c.gather-in-Call.ensures.ok
