use Rattle.std.proofs.Common.{◌≡◌, ℕ, ◌<◌, ◌≤◌}
use Rattle.law_sig.specs.Signature.{vars_at}
use Rattle.law_agenda.proofs.stores.first_var.Given as goal

abbrev pub invariant-loop-number : goal.invariant-loop-number
invariant-loop-number l = (l.from ≤ l.number) × ((n : ℕ) → l.from ≤ n → n < l.number → vars_at l.sig (record { 0 = n }) ≡ 0)
