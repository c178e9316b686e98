use Rattle.std.proofs.Common.{◌≡◌, drop}
use Rattle.std.specs.List.{list_any}
use Rattle.law_own.specs.Own.{stands}
use Rattle.law_pool.proofs.own.+stands.Given as goal

abbrev pub invariant-loop-arg : goal.invariant-loop-arg
invariant-loop-arg l = list_any (stands l.sort l.index) (drop l.arg-index l.arg-items) ≡ stands l.sort l.index l.term
