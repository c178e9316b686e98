use Rattle.std.proofs.Common.{◌++◌, ◌∷◌, [], length, ap, ◌∙◌}
use Rattle.law_agenda.specs.Shelves.{sorted_out}
use Rattle.law_agenda.proofs.Items.{heavier_items}
use Rattle.law_agenda.proofs.stores.heavier.Goals as goal

pub returns-clause-items : goal.returns-clause-items
returns-clause-items c = heavier_items c.args.sig.now c.args.store (record { weight = c.saturating_add.result; level = c.new.result; shelf = c.push.new.self }) c.new.ensures
    (c.in_ok-push.ensures.ok ∙ ap (λ l. c.args.store.shelf ++ l ∷ [])
    (c.in_ok-sorted_out.ensures ∙ ap (λ l. sorted_out c.args.sig.now l (length c.args.sig.now.sort_names)) c.as_slice.ensures))
