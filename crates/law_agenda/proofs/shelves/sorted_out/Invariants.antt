use Rattle.std.proofs.Common.{◌≡◌}
use Rattle.law_agenda.specs.Shelves.{sorted_out}
use Rattle.law_agenda.proofs.shelves.sorted_out.Given as goal

abbrev pub invariant-loop-number : goal.invariant-loop-number
invariant-loop-number l = l.found ≡ sorted_out l.sig l.level l.number
