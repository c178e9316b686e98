use Rattle.std.proofs.Common.{refl, sym, subst}
use Rattle.law_agenda.specs.Agendas.{IsAt}
use Rattle.law_valid.specs.Order.{after_spread, IsSchemaNext}
use Rattle.law_agenda.proofs.AgendaFacts.{has_schema, ready_of}
use Rattle.law_agenda.proofs.Storing.{if_ok}
use Rattle.law_agenda.proofs.agenda.Agenda.spread.Goals as goal

pub unreachable-requires : goal.unreachable-requires
unreachable-requires c = has_schema c.args.self c.args.universe.now c.args.schema.now c.requires.turn c.in_default.is

pub returns : goal.returns
returns c = if_ok _ _ c.begin.result
    (λ a go p at sig_is spent next.
    let own = c.in_ok-own.ensures in
    subst (λ d. IsAt a (after_spread p d)) own
    (go c.args.self p (ready_of c.args.self p c.args.self.going at spent) refl c.in-Some.is refl sig_is (subst (IsSchemaNext p) (sym own) next)))
    c.begin.ensures
