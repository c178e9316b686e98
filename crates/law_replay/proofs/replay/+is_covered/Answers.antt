use Rattle.std.proofs.Common.{sym, ap, ◌∙◌}
use Rattle.law_sig.specs.declared.tree.Tree.TheVariants.{App}
use Rattle.law_chains.proofs.Binding.{covered-App}
use Rattle.law_replay.proofs.replay.+is_covered.Goals as goal

pub loop-arg-init : goal.loop-arg-init
loop-arg-init t c = covered-App c.args.binds.now _ _ _ (c.in-App.is ∙ ap (App _) (sym c.as_slice-arg-items.ensures))
