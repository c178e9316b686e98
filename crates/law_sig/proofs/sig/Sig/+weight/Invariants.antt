use Rattle.std.proofs.Common.{map, drop}
use Rattle.law_sig.specs.Tests.{weight}
use Rattle.law_sig.proofs.SizeFacts.{Counted}
use Rattle.law_sig.proofs.sig.Sig.+weight.Given as goal

abbrev pub invariant-loop-arg : goal.invariant-loop-arg
invariant-loop-arg l = Counted l.sum (drop l.arg-index (map (weight l.self) l.arg-items)) (weight l.self l.tree)
