use Rattle.std.proofs.Common.{◌≡◌, None, ap, subst, ◌∙◌}
use Rattle.law_sig.specs.Evaluate.{chosen}
use Rattle.law_ids.specs.Values.{trees_of}
use Rattle.law_eval.specs.Work.{Ids, ids_of}
use Rattle.law_eval.specs.Took.{IsChosen}
use Rattle.law_ids.proofs.ResultFacts.{on_ok, passed}
use Rattle.law_eval.proofs.TookFacts.{began_took}
use Rattle.law_eval.proofs.StuckFacts.{apply_stuck, no_row, gives_none}
use Rattle.law_eval.proofs.Parts.{not_chosen}
use Rattle.law_eval.proofs.ChosenFacts.{declared_args, small_chosen}
use Rattle.law_eval.proofs.steps.run_body.Goals as goal

pub returns-in_err-args-clause-over : goal.returns-in_err-args-clause-over
returns-in_err-args-clause-over c = λ over. apply_stuck c.args.sig.now c.args.bank.now c.args.sym c.args.count (ids_of c.args.work.now)
    (no_row (ids_of c.args.work.now) c.args.count (c.in_err-args.ensures.over (passed _ _ _ _ c.from_residual.ensures.1 over)))

pub choose-requires-clause-declared : goal.choose-requires-clause-declared
choose-requires-clause-declared c = declared_args c.args.sig.now c.args.sym c.args.fun.now c.requires.well_formed c.requires.declared

pub returns-in_err-pay-clause-over : goal.returns-in_err-pay-clause-over
returns-in_err-pay-clause-over c = λ over. apply_stuck c.args.sig.now c.args.bank.now c.args.sym c.args.count (ids_of c.args.work.now)
    (λ row below rows e fits. ap (λ (i : Ids). i.left) c.in_ok-args.ensures.ok.before ∙ c.in_err-pay.ensures.over (passed _ _ _ _ c.from_residual-in_err-pay.ensures.1 over))

pub returns-in_default-clause-over : goal.returns-in_default-clause-over
returns-in_default-clause-over c = λ over.
    let none = subst (λ l. chosen c.args.sig.now c.args.fun.now (trees_of c.args.bank.now l) ≡ None) c.as_slice.ensures.value c.in_default.ensures in
    gives_none c.args.sig.now c.args.bank.now c.args.sym c.args.count (ids_of c.args.work.now) c.in_ok-args.args.items (ids_of c.take_row.new.self).rows
    (ap (λ (i : Ids). i.rows) c.in_ok-args.ensures.ok.before) (λ v k applied. not_chosen c.args.sig.now c.args.fun.now c.requires.declared none applied)

pub returns-clause-took : goal.returns-clause-took
returns-clause-took c = on_ok _ _ c.enter.result
    (λ e. began_took c.args.sig.now c.args.bank.now c.args.sym c.args.count c.args.fun.now (ids_of c.args.work.now) (ids_of c.take_row.new.self) (ids_of c.pay.new.self) (ids_of c.enter.new.self)
    c.in_ok-args.args.items c.in-Some.choice.body.now c.in-Some.choice.matched c.requires.declared c.in_ok-args.ensures.ok c.in_ok-pay.ensures.ok
    (subst (λ l. IsChosen c.args.sig.now c.args.bank.now c.args.fun.now l c.in-Some.choice.body.now c.in-Some.choice.matched) c.as_slice.ensures.value c.in-Some.ensures)
    (small_chosen c.args.sig.now c.args.sym c.args.fun.now _ _ c.requires.well_formed c.requires.declared c.in-Some.ensures.is) e c.requires.sound)
    c.enter.ensures.ok
