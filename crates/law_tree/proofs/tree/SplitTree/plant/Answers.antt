use Rattle.std.proofs.Common.{◌∙◌, ap}
use Rattle.std.specs.HashMap.{get}
use Rattle.law_tree.specs.Grown.{Grown}
use Rattle.law_tree.specs.Looking.{same_key}
use Rattle.law_tree.proofs.Keeping.{root_sound}
use Rattle.law_tree.proofs.tree.SplitTree.plant.Goals as goal

pub invariant_of-self-2 : goal.invariant_of-self-2
invariant_of-self-2 g c =
    root_sound c.self.inside.tests c.self.inside.nodes.items _ (get same_key c.self.inside.children) c.self.invariant
    (ap (λ (z : Grown g.row.T.Denot). z.nodes) c.self.view_is ∙ c.requires.nodes) c.in-Ok-push.ensures.items
