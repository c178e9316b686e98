use Rattle.std.proofs.Common.{sym, ap, ◌∙◌}
use Rattle.law_sig.specs.declared.tree.Tree.TheVariants.{App}
use Rattle.law_own.proofs.Standing.{stands-App}
use Rattle.law_pool.proofs.own.+stands.Goals as goal

pub loop-arg-init : goal.loop-arg-init
loop-arg-init t c = stands-App c.args.sort c.args.index _ _ _ (c.in-App.is ∙ ap (App _) (sym c.as_slice-arg-items.ensures))
