use Rattle.std.proofs.Common.{◌≡◌, ◌+◌, drop}
use Rattle.law_typing.specs.LineFaults.{faults_from, nothing_seen}
use Rattle.law_types.proofs.check.walk.Given as goal

abbrev pub invariant-loop-at : goal.invariant-loop-at
invariant-loop-at l = faults_from l.text l.seen (l.at + 1) (drop l.at l.lines) ≡ faults_from l.text nothing_seen 1 l.lines
