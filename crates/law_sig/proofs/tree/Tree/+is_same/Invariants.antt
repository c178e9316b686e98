use Rattle.std.proofs.Common.{◌≡◌, take}
use Rattle.law_sig.proofs.tree.Tree.+is_same.Given as goal

abbrev pub invariant-loop-at : goal.invariant-loop-at
invariant-loop-at l = take l.at l.arg-items ≡ take l.at l.others
