use Rattle.std.proofs.Common.{◌≡◌, take}
use Rattle.law_check.proofs.entries.copy_equations.Given as goal

abbrev pub invariant-loop-q : goal.invariant-loop-q
invariant-loop-q l = l.copy ≡ take l.q-index l.equations
