use Rattle.std.proofs.Common.{subst}
use Rattle.std.specs.HashMap.{get}
use Rattle.law_tree.specs.Grown.{Grown}
use Rattle.law_tree.specs.Looking.{same_key, AreApart}
use Rattle.law_tree.proofs.Adding.{finds_apart}
use Rattle.law_tree.proofs.tree.SplitTree.made.Goals as goal

pub returns-clause-apart : goal.returns-clause-apart
returns-clause-apart g c =
    subst (λ (z : Grown g.row.T.Denot). AreApart z.nodes) c.self.view_is (finds_apart c.self.inside.nodes.items (get same_key c.self.inside.children) c.self.invariant.finds)
