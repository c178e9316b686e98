use Rattle.std.proofs.Common.{◌≡◌, take, map}
use Rattle.law_replay.specs.Terms.{meaning}
use Rattle.law_replay.proofs.term.+is_tree.Given as goal

abbrev pub invariant-loop-at : goal.invariant-loop-at
invariant-loop-at l = map meaning (take l.at l.args) ≡ take l.at l.part-items
