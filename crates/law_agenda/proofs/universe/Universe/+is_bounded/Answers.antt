use Rattle.std.proofs.Common.{sym, ap, ◌∙◌}
use Rattle.law_sig.specs.declared.tree.Tree.TheVariants.{App}
use Rattle.law_agenda.proofs.Bounds.{bounded_by}
use Rattle.law_agenda.proofs.universe.Universe.+is_bounded.Goals as goal

pub loop-arg-init : goal.loop-arg-init
loop-arg-init t c = bounded_by c.args.self.now _ _ _ (c.in-App.is ∙ ap (App _) (sym c.as_slice-arg-items.ensures)) (sym c.is_explored.ensures ∙ c.if-not-is_explored.false)
