use Rattle.std.proofs.Common.{◌≡◌, drop}
use Rattle.std.specs.List.{list_all}
use Rattle.law_sig.specs.Tests.{is_bounded}
use Rattle.law_agenda.proofs.universe.Universe.+is_bounded.Given as goal

abbrev pub invariant-loop-arg : goal.invariant-loop-arg
invariant-loop-arg l = list_all (is_bounded l.self) (drop l.arg-index l.arg-items) ≡ is_bounded l.self l.term
