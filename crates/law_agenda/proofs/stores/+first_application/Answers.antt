use Rattle.std.proofs.Common.{◌≡◌, ◌<◌, ◌≤◌, ◌++◌, ◌∷◌, [], length, sym, subst, arith}
use Rattle.law_sig.specs.declared.parts.SigParts.{SigParts}
use Rattle.law_agenda.specs.Candidates.{IsStock}
use Rattle.law_agenda.specs.Shelves.{sorted_out}
use Rattle.law_agenda.proofs.Seeking.{none_case}
use Rattle.law_agenda.proofs.Storing.{application_none, application_heavier, if_ok}
use Rattle.law_agenda.proofs.stores.+first_application.Goals as goal

pub returns-then-store-size-clause-first : goal.returns-then-store-size-clause-first
returns-then-store-size-clause-first t c = λ spreads is.
    let e = c.size.ensures in
    let h = c.if-store-size.true in
    let past : c.args.universe.now.settings.size ≤ c.args.store.weight = omega arith in
    application_none c.args.universe.now spreads c.args.store c.args.from is
    (none_case _ _ c.in_ok-found.field-0 c.in-None.is (c.in_ok-found.ensures spreads (subst (λ l. IsStock c.args.universe.now spreads l c.args.store.weight) (sym c.as_slice.ensures) is.stock))) past

pub returns-in_ok-more-in-None-clause-first : goal.returns-in_ok-more-in-None-clause-first
returns-in_ok-more-in-None-clause-first t c = if_ok _ _ c.first_application.result
    (λ r go spreads is.
    let e = c.size.ensures in
    let h = c.if-store-size.false in
    let less : c.args.store.weight < c.args.universe.now.settings.size = omega arith in
    application_heavier c.args.universe.now spreads c.args.store c.in_ok-more-in-None.more c.args.from r.store r.next is
    (none_case _ _ c.in_ok-found.field-0 c.in-None.is (c.in_ok-found.ensures spreads (subst (λ l. IsStock c.args.universe.now spreads l c.args.store.weight) (sym c.as_slice.ensures) is.stock))) less
    c.in_ok-more-in-None.ensures.weight c.in_ok-more-in-None.ensures.level
    (subst (λ (p : SigParts). c.in_ok-more-in-None.more.shelf ≡ c.args.store.shelf ++ sorted_out p c.args.store.level (length p.sort_names) ∷ []) c.sig.ensures c.in_ok-more-in-None.ensures.shelf) (go spreads))
    c.first_application.ensures.first
