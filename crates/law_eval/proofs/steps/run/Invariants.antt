use Rattle.law_eval.specs.Work.{ids_of}
use Rattle.law_eval.specs.Took.{IsRun, steps_left}
use Rattle.law_eval.proofs.steps.run.Given as goal

abbrev pub invariant-loop-task : goal.invariant-loop-task
invariant-loop-task l = IsRun l.sig l.initial.bank (ids_of l.initial.work) l.bank (ids_of l.work)

abbrev pub decreases-loop-task : goal.decreases-loop-task
decreases-loop-task l = steps_left (ids_of l.work)
