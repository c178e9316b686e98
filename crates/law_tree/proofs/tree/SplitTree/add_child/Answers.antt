use Rattle.std.proofs.Common.{ℕ, ◌∙◌, ◌++◌, ◌∷◌, [], ap, subst, sym, refl}
use Rattle.std.specs.HashMap.{get}
use Rattle.std.specs.Map.{lookup}
use Rattle.law_tree.specs.Nodes.{IsChild, HasTest}
use Rattle.law_tree.specs.Grown.{Grown}
use Rattle.law_tree.specs.Looking.{same_key}
use Rattle.law_tree.proofs.Keeping.{sound_same, child_sound}
use Rattle.law_tree.proofs.tree.SplitTree.add_child.Goals as goal

pub invariant_of-self-in_default-insert : goal.invariant_of-self-in_default-insert
invariant_of-self-in_default-insert g c =
    sound_same c.self.inside.tests c.self.inside.tests c.self.inside.nodes.items _ (get same_key c.self.inside.children) _ c.self.invariant refl c.reserve-2.ensures.items
    (λ q. ap (λ z. lookup (same_key q) z) c.in_default-insert.ensures.err)

pub invariant_of-self-2 : goal.invariant_of-self-2
invariant_of-self-2 g c =
    child_sound c.self.inside.tests c.self.inside.tests c.self.inside.nodes.items _ c.args.at c.len-number.result c.len-number.result c.len-child.result c.args.value
    (subst (λ (z : Grown g.row.T.Denot). HasTest z.nodes c.args.at) (sym c.self.view_is) c.requires.split) (get same_key c.self.inside.children) _ c.self.invariant
    (subst (λ (z : Grown g.row.T.Denot). (k : ℕ) → IsChild z.nodes c.args.at k c.args.value → ⊥) (sym c.self.view_is) c.requires.nowhere)
    refl refl (c.len-child.ensures ∙ c.self.inside.nodes.ok.0)
    (c.in-Ok-push-2.ensures.items ∙ ap (λ z. z ++ c.leaf_at-leaf.result ∷ []) c.reserve-2.ensures.items ∙ ap (λ z. c.self.inside.nodes.items ++ z ∷ []) c.leaf_at-leaf.ensures)
    c.in-Ok-insert.ensures.updates.0
