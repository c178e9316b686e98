use Rattle.std.proofs.Common.{◌↔◌, length}
use Rattle.law_sig.specs.Lists.{Each}
use Rattle.law_valid.specs.Trees.{AreRising}
use Rattle.law_checking.specs.Lines.{Held, held_in}
use Rattle.law_forest.proofs.trees.all_rising.Given as goal

abbrev pub decreases-loop-line : goal.decreases-loop-line
decreases-loop-line l = length l.left

abbrev pub invariant-loop-line : goal.invariant-loop-line
invariant-loop-line l = Each (λ (held : Held). AreRising held.schemas) (held_in l.left) ↔ Each (λ (held : Held). AreRising held.schemas) (held_in l.lines)
