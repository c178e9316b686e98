use Rattle.std.proofs.Common.{Some, sym, ap, ◌∙◌}
use Rattle.law_eval.specs.Work.{ids_of}
use Rattle.law_ids.proofs.ResultFacts.{on_ok}
use Rattle.law_eval.proofs.TookFacts.{applied_took}
use Rattle.law_eval.proofs.StuckFacts.{apply_stuck}
use Rattle.law_eval.proofs.steps.call.Goals as goal

pub returns-in-Con-clause-took : goal.returns-in-Con-clause-took
returns-in-Con-clause-took c = on_ok _ _ c.build.result
    (λ built. applied_took c.args.sig.now c.args.bank.now c.build.new.bank c.args.sym c.args.count c.in-Con.field-0 (ids_of c.args.work.now) (ids_of c.build.new.work)
    (sym c.in-Some.ensures ∙ ap Some c.in-Con.is) built c.build.ensures.grows c.requires.sound)
    c.build.ensures.ok

pub returns-in-Con-clause-over : goal.returns-in-Con-clause-over
returns-in-Con-clause-over c = λ over. apply_stuck c.args.sig.now c.args.bank.now c.args.sym c.args.count (ids_of c.args.work.now) (c.build.ensures.over over)
