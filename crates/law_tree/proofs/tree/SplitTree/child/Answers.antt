use Rattle.std.proofs.Common.{◌∙◌, subst}
use Rattle.std.specs.HashMap.{get}
use Rattle.law_tree.specs.Grown.{Grown}
use Rattle.law_tree.specs.Looking.{same_key, FindsChild}
use Rattle.law_tree.proofs.Keeping.{found_child}
use Rattle.law_tree.proofs.tree.SplitTree.child.Goals as goal

pub returns : goal.returns
returns g c =
    subst (λ (z : Grown g.row.T.Denot). FindsChild z.nodes c.args.at c.args.value c.copied.result) c.self.view_is
    (found_child c.self.inside.nodes.items (get same_key c.self.inside.children) c.self.invariant.finds c.args.at c.args.value c.copied.result (c.copied.ensures ∙ c.get.ensures.value))
