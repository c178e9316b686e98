use Rattle.std.proofs.Common.{◌≡◌, drop}
use Rattle.std.specs.List.{list_all}
use Rattle.law_chains.specs.Binds.{fits}
use Rattle.law_replay.proofs.replay.all_fit.Given as goal

abbrev pub invariant-loop-bind : goal.invariant-loop-bind
invariant-loop-bind l = list_all (fits l.sig l.q) (drop l.bind-index l.binds) ≡ list_all (fits l.sig l.q) l.binds
