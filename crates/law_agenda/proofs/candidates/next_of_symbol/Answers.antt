use Rattle.law_agenda.proofs.Seeking.{next_by_rows, spent_by_rows, walk_itself, some_case, none_case}
use Rattle.law_agenda.proofs.candidates.next_of_symbol.Goals as goal

pub returns-in-Some : goal.returns-in-Some
returns-in-Some c = λ parts spreads shelf w t stock a.
    let h = some_case _ _ c.in_ok-next.field-0 c.in-Some.next c.in-Some.is (c.in_ok-next.ensures (walk_itself a)) in
    next_by_rows parts spreads shelf w stock c.args.sym c.args.walk c.in-Some.next t a h.0 h.1

pub returns-in-None : goal.returns-in-None
returns-in-None c = λ parts spreads shelf w t stock a.
    spent_by_rows parts spreads shelf w stock c.args.sym c.args.walk t a (none_case _ _ c.in_ok-next.field-0 c.in-None.is (c.in_ok-next.ensures (walk_itself a)))
