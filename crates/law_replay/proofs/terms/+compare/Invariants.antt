use Rattle.std.proofs.Common.{◌≡◌, drop}
use Rattle.std.specs.Cmp.Lexicographic.{slice_cmp}
use Rattle.law_sig.specs.Order.{compare_k}
use Rattle.law_replay.proofs.terms.+compare.Given as goal

abbrev pub invariant-loop-at : goal.invariant-loop-at
invariant-loop-at l = slice_cmp (compare_k l.sig) (drop l.at l.arg-items) (drop l.at l.other_args) ≡ compare_k l.sig l.left l.right
