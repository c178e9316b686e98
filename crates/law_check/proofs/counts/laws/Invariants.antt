use Rattle.std.proofs.Common.{◌≡◌, ◌+◌, ◌≤◌, drop, length}
use Rattle.std.specs.List.{filter}
use Rattle.law_checking.specs.Verdicts.{is_law}
use Rattle.law_check.proofs.counts.laws.Given as goal

abbrev pub invariant-loop-entry : goal.invariant-loop-entry
invariant-loop-entry l = (l.count + length (filter is_law (drop l.entry-index l.entries)) ≡ length (filter is_law l.entries)) × (l.count ≤ l.entry-index)
