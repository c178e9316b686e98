use Rattle.std.proofs.Common.{◌≡◌, take}
use Rattle.law_sig.specs.Lists.{Each}
use Rattle.law_ids.specs.declared.ids.ValueId.{ValueId}
use Rattle.law_forest.proofs.once.are_alike.Given as goal

abbrev pub invariant-loop-at : goal.invariant-loop-at
invariant-loop-at l = Each (λ (v : ValueId). v.0 ≡ l.first.0) (take l.at l.rest)
