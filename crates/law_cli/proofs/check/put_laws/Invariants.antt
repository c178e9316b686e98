use Rattle.std.proofs.Common.{◌≡◌, ◌++◌, take}
use Rattle.law_cli.specs.Checks.{law_lines}
use Rattle.law_cli.proofs.check.put_laws.Given as goal

abbrev pub invariant-loop-entry : goal.invariant-loop-entry
invariant-loop-entry l = l.out ≡ l.initial.out ++ law_lines (take l.entry-index l.entries)
