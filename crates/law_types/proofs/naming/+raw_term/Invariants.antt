use Rattle.std.proofs.Common.{◌≡◌, take, map}
use Rattle.law_typing.specs.Naming.{named_term}
use Rattle.law_types.proofs.naming.+raw_term.Given as goal

abbrev pub invariant-loop-arg : goal.invariant-loop-arg
invariant-loop-arg l = l.terms ≡ map (named_term l.sig) (take l.arg-index l.arg-items)
