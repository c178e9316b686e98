use Rattle.std.proofs.Common.{◌≡◌, drop}
use Rattle.law_sig.specs.Chains.{bound_in}
use Rattle.law_replay.proofs.term.bound.Given as goal

abbrev pub invariant-loop-bind : goal.invariant-loop-bind
invariant-loop-bind l = bound_in (drop l.bind-index l.binds) l.sort l.index ≡ bound_in l.binds l.sort l.index
