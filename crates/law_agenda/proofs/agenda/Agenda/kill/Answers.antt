use Rattle.std.proofs.Common.{◌≡◌, List, None, subst, sym, refl}
use Rattle.law_agenda.specs.declared.agenda.Agenda.{Agenda}
use Rattle.law_agenda.specs.Agendas.{IsAt}
use Rattle.law_agenda.specs.Candidates.{IsCandidate, NextOf}
use Rattle.law_agenda.specs.Stores.{IsStore, IsFitting}
use Rattle.law_sig.specs.declared.parts.SigParts.{SigParts}
use Rattle.law_sig.specs.declared.tree.Tree.{Tree}
use Rattle.law_sig.specs.Schemas.{IsConsidered}
use Rattle.law_valid.specs.Order.{after_killed}
use Rattle.law_agenda.proofs.Seeking.{some_case}
use Rattle.law_agenda.proofs.AgendaFacts.{has_schema, ready_of, killed, fitting_of}
use Rattle.law_listing.proofs.Staging.{first_one}
use Rattle.law_agenda.proofs.agenda.Agenda.kill.Goals as goal

pub unreachable-requires : goal.unreachable-requires
unreachable-requires c = has_schema c.args.self c.args.universe.now c.requires.turn.0 c.requires.turn.1 c.in_default.is

pub returns : goal.returns
returns c = λ p d at sig_is spent next.
    let r = ready_of c.args.self p c.args.self.going at spent in
    let h = some_case _ _ c.args.self.schema c.in-Some.last c.in-Some.is r.next in
    let same : h.0 ≡ d = first_one p.parts (IsConsidered p.parts p.spreads) p.schemas h.0 d h.2 next in
    let cand = subst (IsCandidate p.parts c.args.self.store.shelf c.args.self.store.weight c.in-Some.last) same h.1 in
    let go = subst (λ (s : SigParts). (spreads : List Tree) (t : Tree) → IsStore s spreads c.args.self.store → IsCandidate s c.args.self.store.shelf c.args.self.store.weight c.in-Some.last t → IsConsidered s spreads t
    → IsFitting c.args.self.store c.in-Some.last → IsStore s spreads c.in_ok-found.found.store
    × NextOf s c.in_ok-found.found.store.shelf c.in_ok-found.found.store.weight (IsConsidered s spreads) t c.in_ok-found.found.next) sig_is c.in_ok-found.ensures.next in
    let f = go p.spreads d r.store_is cand next.is (fitting_of p.parts c.args.self.store c.in-Some.last d cand) in
    let found = c.in_ok-found.found in
    let new : Agenda = record { store = found.store; schema = found.next; going = None; lives = c.args.self.lives } in
    subst (λ b. IsAt b (after_killed p d)) (sym c.at_schema.ensures) (killed c.args.self new p d r next f.0 c.in_ok-found.ensures.items refl f.1)
