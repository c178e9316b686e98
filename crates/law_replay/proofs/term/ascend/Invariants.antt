use Rattle.std.proofs.Common.{◌≡◌, ◌-◌, length, take}
use Rattle.law_replay.specs.Terms.{meaning, wrapped}
use Rattle.law_replay.proofs.term.ascend.Given as goal

abbrev pub invariant-loop-done : goal.invariant-loop-done
invariant-loop-done l = wrapped (take (length l.frames - l.done) l.frames) (meaning l.made) ≡ wrapped l.frames (meaning l.term)
