use Rattle.law_eval.proofs.application.apply.Goals as goal

pub returns-clause-id : goal.returns-clause-id
returns-clause-id c = c.apply_with.ensures.id

pub returns-clause-value : goal.returns-clause-value
returns-clause-value c = c.apply_with.ensures.value
