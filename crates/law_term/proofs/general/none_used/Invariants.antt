use Rattle.std.proofs.Common.{◌≡◌, length}
use Rattle.law_sig.specs.declared.tree.SortId.{SortId}
use Rattle.law_term.specs.Numbers.{number_at}
use Rattle.law_term.proofs.general.none_used.Given as goal

abbrev pub invariant-loop : goal.invariant-loop
invariant-loop l = record {
  long : length l.used.items ≡ l.index;
  none : (s : SortId) → number_at l.used.items s ≡ 0;
}
