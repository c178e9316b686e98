use Rattle.std.proofs.Common.{◌++◌, ◌∷◌, [], refl}
use Rattle.law_agenda.specs.declared.stores.Store.{Store}
use Rattle.law_agenda.proofs.Storing.{if_ok}
use Rattle.law_agenda.proofs.Items.{item_more, fitting_more, closed_by, considered_then}
use Rattle.law_agenda.proofs.closing.close.Goals as goal

pub returns-clause-items : goal.returns-clause-items
returns-clause-items c = if_ok _ _ c.next_schema.result
    (λ r go e at. item_more c.args.store (record { weight = c.args.store.weight; level = c.push.new.self; shelf = c.args.store.shelf }) c.args.spread e c.in_ok-push.ensures.ok refl (go e at))
    c.next_schema.ensures.items

pub returns-clause-next : goal.returns-clause-next
returns-clause-next c = if_ok _ _ c.next_schema.result
    (λ r go spreads is cand fits closed.
    let more : Store = record { weight = c.args.store.weight; level = c.push.new.self; shelf = c.args.store.shelf } in
    go (spreads ++ c.args.spread.schema ∷ []) c.args.spread.schema
    (closed_by c.args.universe.now spreads c.args.store more c.args.last c.args.spread is cand fits closed refl refl c.in_ok-push.ensures.ok)
    cand (considered_then c.args.universe.now spreads c.args.spread.schema closed.considered) (fitting_more c.args.store more c.args.last refl fits))
    c.next_schema.ensures.next
