use Rattle.law_cli.proofs.Completeness.{one_of_each, good_is_done}
use Rattle.law_cli.proofs.laws.answer_laws.Goals as goal

pub returns : goal.returns
returns c = let refusals = c.refusal_laws.ensures in
    record { one = one_of_each refusals.one refusals.none; good = good_is_done refusals.one refusals.none }
