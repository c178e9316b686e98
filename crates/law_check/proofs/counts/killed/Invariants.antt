use Rattle.std.proofs.Common.{◌≡◌, ◌+◌, ◌≤◌, drop, length}
use Rattle.std.specs.List.{filter}
use Rattle.law_checking.specs.Verdicts.{is_killed}
use Rattle.law_check.proofs.counts.killed.Given as goal

abbrev pub invariant-loop-entry : goal.invariant-loop-entry
invariant-loop-entry l = (l.count + length (filter is_killed (drop l.entry-index l.entries)) ≡ length (filter is_killed l.entries)) × (l.count ≤ l.entry-index)
