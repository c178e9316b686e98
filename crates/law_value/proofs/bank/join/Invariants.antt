use Rattle.std.proofs.Common.{◌≡◌, take, drop}
use Rattle.law_ids.specs.Tops.{tops}
use Rattle.law_value.proofs.bank.join.Given as goal

abbrev pub invariant-loop-at : goal.invariant-loop-at
invariant-loop-at l = (l.fields ≡ take l._at (tops (λ t. t) l.fn.done.items)) × (tops (λ t. t) l.done.items ≡ drop l._at (tops (λ t. t) l.fn.done.items))
