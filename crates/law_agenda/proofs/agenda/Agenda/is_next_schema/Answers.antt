use Rattle.std.proofs.Common.{sym, subst}
use Rattle.law_agenda.specs.Candidates.{IsCandidate}
use Rattle.law_agenda.proofs.Seeking.{some_case}
use Rattle.law_agenda.proofs.AgendaFacts.{same_schema, ready_of}
use Rattle.law_agenda.proofs.agenda.Agenda.is_next_schema.Goals as goal

pub returns-in-Some : goal.returns-in-Some
returns-in-Some c = λ p at sig_is spent.
    let r = ready_of c.args.self.now p c.args.self.now.going at spent in
    let h = some_case _ _ c.args.self.now.schema c.in-Some.next c.in-Some.is r.next in
    same_schema p _ c.args.schema.now h.0 h.2
    (c.is_candidate.ensures h.0 (subst (λ s. IsCandidate s c.args.self.now.store.shelf c.args.self.now.store.weight c.in-Some.next h.0) (sym sig_is) h.1))
