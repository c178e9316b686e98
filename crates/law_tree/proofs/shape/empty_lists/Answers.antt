use Rattle.std.proofs.Common.{◌∷◌, ◌+◌, [], map, ap, ◌∙◌, sym, subst}
use Rattle.std.proofs.lemmas.List.{map-append}
use Rattle.law_tree.specs.Listing.{AreOf}
use Rattle.law_tree.proofs.Listing.{are_more}
use Rattle.law_tree.proofs.shape.empty_lists.Goals as goal

pub loop-preserved : goal.loop-preserved
loop-preserved c =
    subst (λ z. AreOf (λ _. []) (c.loop.counter + 1) z)
    (sym (ap (map (λ v. v.items)) c.in-Ok.ensures.items ∙ map-append (λ v. v.items) c.loop.lists.items (c.new.result ∷ [])))
    (are_more (λ _. []) c.loop.counter (map (λ v. v.items) c.loop.lists.items) c.new.result.items c.loop.invariant c.new.ensures.items)
