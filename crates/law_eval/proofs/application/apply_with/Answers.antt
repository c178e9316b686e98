use Rattle.std.proofs.Common.{subst, refl}
use Rattle.law_eval.specs.Work.{Ids, ids_of}
use Rattle.law_eval.specs.Runs.{Stuck, seen}
use Rattle.law_eval.specs.Took.{IsRun}
use Rattle.law_ids.proofs.ResultFacts.{passed}
use Rattle.law_eval.proofs.Chain.{run_stuck}
use Rattle.law_eval.proofs.Outcome.{over, no_answer, answered, answer_held}
use Rattle.law_eval.proofs.application.apply_with.Goals as goal

pub returns-in_err-run-clause-over : goal.returns-in_err-run-clause-over
returns-in_err-run-clause-over c = λ is_over.
    over c.args.sig.now c.args.bank.now c.args.sym c.args.args.now c.args.budget
    (subst (λ (i : Ids). Stuck c.args.sig.now (seen c.args.bank.now i)) c.in_ok-begin.ensures.ok
    (c.in_err-run.ensures.over (passed _ _ _ _ c.from_residual-in_err-run.ensures.1 is_over)))

pub returns-in_err-value-clause-over : goal.returns-in_err-value-clause-over
returns-in_err-value-clause-over c = λ is_over.
    over c.args.sig.now c.args.bank.now c.args.sym c.args.args.now c.args.budget
    (subst (λ (i : Ids). Stuck c.args.sig.now (seen c.args.bank.now i)) c.in_ok-begin.ensures.ok
    (run_stuck c.args.sig.now c.args.bank.now c.run.new.bank (ids_of c.begin.new.self) (ids_of c.run.new.work) c.in_ok-run.ensures.ran
    (no_answer c.args.sig.now c.run.new.bank (ids_of c.run.new.work) c.in_ok-run.ensures.done
    (c.in_err-value.ensures.over (passed _ _ _ _ c.from_residual-in_err-value.ensures.1 is_over)))))

pub returns-clause-id : goal.returns-clause-id
returns-clause-id c = answer_held c.run.new.bank (ids_of c.run.new.work) c.in_ok-value.value c.in_ok-run.ensures.ran.sound c.in_ok-value.ensures.ok

pub returns-clause-value : goal.returns-clause-value
returns-clause-value c =
    answered c.args.sig.now c.args.bank.now c.run.new.bank c.args.sym c.args.args.now c.args.budget (ids_of c.run.new.work) c.in_ok-value.value _
    (subst (λ (i : Ids). IsRun c.args.sig.now c.args.bank.now i c.run.new.bank (ids_of c.run.new.work)) c.in_ok-begin.ensures.ok c.in_ok-run.ensures.ran)
    c.in_ok-run.ensures.done c.in_ok-value.ensures.ok refl
