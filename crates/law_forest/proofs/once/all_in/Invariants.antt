use Rattle.std.proofs.Common.{take}
use Rattle.law_sig.specs.Lists.{In, Each}
use Rattle.law_forest.proofs.once.all_in.Given as goal

abbrev pub invariant-loop-number : goal.invariant-loop-number
invariant-loop-number l = Each (λ n. In n l.others) (take l.number-index l.numbers)
