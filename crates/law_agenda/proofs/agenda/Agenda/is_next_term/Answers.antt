use Rattle.std.proofs.Common.{sym, subst}
use Rattle.law_agenda.specs.Agendas.{IsStage}
use Rattle.law_agenda.specs.Instances.{IsInstanceOf}
use Rattle.law_agenda.proofs.AgendaFacts.{same_term}
use Rattle.law_agenda.proofs.agenda.Agenda.is_next_term.Goals as goal

pub returns-in-Some : goal.returns-in-Some
returns-in-Some c = λ p at lives_are.
    let g = subst (λ o. IsStage o c.args.self.now p) c.in-Some.is at in
    same_term p _ c.args.term.now g.term g.next (c.is_term.ensures g.term (subst (λ l. IsInstanceOf l c.in-Some.going.instance g.term) (sym lives_are) g.term_is))
