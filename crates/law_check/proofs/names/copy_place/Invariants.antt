use Rattle.std.proofs.Common.{◌≡◌, take}
use Rattle.law_check.proofs.names.copy_place.Given as goal

abbrev pub invariant-loop-number : goal.invariant-loop-number
invariant-loop-number l = l.copy ≡ take l.number-index l.place
