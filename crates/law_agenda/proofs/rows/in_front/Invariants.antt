use Rattle.std.proofs.Common.{◌≡◌, ◌∷◌, take}
use Rattle.law_agenda.proofs.rows.in_front.Given as goal

abbrev pub invariant-loop-other : goal.invariant-loop-other
invariant-loop-other l = l.found ≡ l.fn.pick ∷ take l.other-index l.row
