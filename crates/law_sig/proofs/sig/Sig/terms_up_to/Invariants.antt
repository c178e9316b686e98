use Rattle.std.proofs.Common.{◌≡◌, ◌≤◌, map}
use Rattle.law_sig.specs.Lists.{total}
use Rattle.law_sig.specs.Counts.{rows_up_to}
use Rattle.law_sig.proofs.sig.Sig.terms_up_to.Given as goal

abbrev pub invariant-loop : goal.invariant-loop
invariant-loop l = record {
  rows : l.rows ≡ rows_up_to l.self l.counter;
  count : l.count ≡ total (map total (rows_up_to l.self l.counter));
  within : l.count ≤ l.limit;
}
