use Rattle.std.proofs.Common.{◌≡◌, drop}
use Rattle.law_chains.specs.Binds.{is_given}
use Rattle.law_replay.proofs.replay.is_given.Given as goal

abbrev pub invariant-loop-bind : goal.invariant-loop-bind
invariant-loop-bind l = is_given (drop l.bind-index l.binds) l.sort l.index ≡ is_given l.binds l.sort l.index
