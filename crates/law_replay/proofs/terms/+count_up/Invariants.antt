use Rattle.std.proofs.Common.{◌≡◌, drop, map}
use Rattle.law_sig.specs.Trees.{holes, joined}
use Rattle.law_chains.specs.Counting.{counted_from}
use Rattle.law_replay.proofs.terms.+count_up.Given as goal

abbrev pub invariant-loop-arg : goal.invariant-loop-arg
invariant-loop-arg l = counted_from l.count (joined (map (holes l.sort) (drop l.arg-index l.arg-items))) ≡ counted_from l.next (holes l.sort l.term)
