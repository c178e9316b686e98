use Rattle.std.proofs.Common.{refl, subst}
use Rattle.law_agenda.specs.Agendas.{IsStage}
use Rattle.law_agenda.proofs.AgendaFacts.{has_instance}
use Rattle.law_agenda.proofs.Storing.{if_ok}
use Rattle.law_agenda.proofs.agenda.Agenda.take_term.Goals as goal

pub unreachable-requires : goal.unreachable-requires
unreachable-requires c = has_instance c.args.self c.args.universe.now c.requires.turn.0 c.requires.turn.1 c.in_default.is

pub returns : goal.returns
returns c = if_ok _ _ c.go_on.result
    (λ a go p t at sig_is next.
    go c.args.self p t c.args.live (subst (λ o. IsStage o c.args.self p) c.in-Some.is at) refl c.in-Some-schema.is sig_is next c.in_ok-lives.ensures)
    c.go_on.ensures
