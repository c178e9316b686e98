use Rattle.std.proofs.Common.{◌≡◌, ◌-◌, drop}
use Rattle.law_chains.specs.Binds.{rises}
use Rattle.law_replay.proofs.replay.rises.Given as goal

abbrev pub invariant-loop-at : goal.invariant-loop-at
invariant-loop-at l = rises (drop (l.at - 1) l.binds) ≡ rises l.binds
