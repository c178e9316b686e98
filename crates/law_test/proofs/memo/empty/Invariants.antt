use Rattle.std.proofs.Common.{List}
use Rattle.law_sig.specs.declared.tree.Tree.{Tree}
use Rattle.law_sig.specs.declared.parts.SigParts.{SigParts}
use Rattle.law_test.specs.Memo.{AreRight}
use Rattle.law_test.proofs.memo.empty.Given as goal

abbrev pub invariant-loop-at : goal.invariant-loop-at
invariant-loop-at l = (parts : SigParts) (bank : List Tree) → AreRight parts bank l.places.items
