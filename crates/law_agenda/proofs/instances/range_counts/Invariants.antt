use Rattle.std.proofs.Common.{◌≡◌, take}
use Rattle.law_agenda.specs.Instances.{range_counts}
use Rattle.law_agenda.proofs.instances.range_counts.Given as goal

abbrev pub invariant-loop-range : goal.invariant-loop-range
invariant-loop-range l = l.counts ≡ range_counts (take l.range-index l.ranges)
