use Rattle.std.proofs.Common.{◌≡◌, ◌+◌, ◌≤◌, length, drop}
use Rattle.law_bank.specs.Bindings.{before_count}
use Rattle.law_term.proofs.subst.place.Given as goal

abbrev pub invariant-loop-at : goal.invariant-loop-at
invariant-loop-at l = record {
  within : l.at ≤ length l.bindings;
  counted : l.at + before_count l.sort l.index (drop l.at l.bindings) ≡ before_count l.sort l.index l.bindings;
}
