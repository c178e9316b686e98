use Rattle.std.proofs.Common.{◌≡◌, take, map}
use Rattle.law_sig.specs.Trees.{schema_of}
use Rattle.law_replay.proofs.terms.+schema.Given as goal

abbrev pub invariant-loop-arg : goal.invariant-loop-arg
invariant-loop-arg l = l.made ≡ map schema_of (take l.arg-index l.arg-items)
