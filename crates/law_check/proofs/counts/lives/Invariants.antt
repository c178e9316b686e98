use Rattle.std.proofs.Common.{◌≡◌, ◌+◌, ◌≤◌, drop, length}
use Rattle.std.specs.List.{filter}
use Rattle.law_checking.specs.Verdicts.{is_live}
use Rattle.law_check.proofs.counts.lives.Given as goal

abbrev pub invariant-loop-entry : goal.invariant-loop-entry
invariant-loop-entry l = (l.count + length (filter is_live (drop l.entry-index l.entries)) ≡ length (filter is_live l.entries)) × (l.count ≤ l.entry-index)
