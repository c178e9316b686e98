use Rattle.std.proofs.Common.{◌∷◌, ◌++◌, [], slice_set, map, ap, ◌∙◌, sym}
use Rattle.std.proofs.lemmas.List.{map-set}
use Rattle.law_tree.proofs.Listing.{item_of_map}
use Rattle.law_tree.proofs.shape.add.Goals as goal

pub returns-in-Ok : goal.returns-in-Ok
returns-in-Ok c =
    map-set (λ l. l.items) c.args.lists.now.items c.args.above c.push.new.self
    ∙ ap (λ z. slice_set (map (λ l. l.items) c.args.lists.now.items) c.args.above z)
    (c.in-Ok.ensures.items ∙ ap (λ z. z ++ c.args.at ∷ []) (sym (item_of_map (λ l. l.items) c.args.lists.now.items c.args.above c.index_mut.result.now [] c.requires c.index_mut.ensures.value)))
