use Rattle.std.proofs.Common.{ap, sym, subst}
use Rattle.std.specs.HashMap.{get}
use Rattle.std.specs.Map.{lookup}
use Rattle.law_tree.specs.Looking.{same_key, IsSound}
use Rattle.law_tree.proofs.Keeping.{none_sound}
use Rattle.law_tree.proofs.tree.SplitTree.new.Goals as goal

pub invariant_of-result : goal.invariant_of-result
invariant_of-result g c = subst (λ z. IsSound c.args.tests z (get same_key c.new-3.result)) (sym c.new-2.ensures.items) (none_sound c.args.tests (get same_key c.new-3.result) c.requires.rising (λ q. ap (λ z. lookup (same_key q) z) c.new-3.ensures.empty))
