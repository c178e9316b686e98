use Rattle.std.proofs.Common.{◌≡◌, drop}
use Rattle.std.specs.List.{list_all}
use Rattle.law_chains.specs.Binds.{is_covered}
use Rattle.law_replay.proofs.replay.+is_covered.Given as goal

abbrev pub invariant-loop-arg : goal.invariant-loop-arg
invariant-loop-arg l = list_all (is_covered l.binds) (drop l.arg-index l.arg-items) ≡ is_covered l.binds l.term
