use Rattle.std.proofs.Common.{◌≡◌, take, map}
use Rattle.law_named.specs.Named.{bind_named}
use Rattle.law_check.proofs.names.Names.binds.Given as goal

abbrev pub invariant-loop-bind : goal.invariant-loop-bind
invariant-loop-bind l = l.found ≡ map (bind_named l.self) (take l.bind-index l.binds)
