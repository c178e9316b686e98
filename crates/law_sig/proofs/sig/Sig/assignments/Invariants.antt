use Rattle.std.proofs.Common.{◌^◌, ◌-◌}
use Rattle.law_sig.proofs.CountFacts.{IsCounting}
use Rattle.law_sig.proofs.sig.Sig.assignments.Given as goal

abbrev pub invariant-loop-at : goal.invariant-loop-at
invariant-loop-at l = IsCounting l.self (2 ^ 64 - 1) l.at l.ways
