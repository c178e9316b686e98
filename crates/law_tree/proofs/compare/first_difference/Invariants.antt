use Rattle.std.proofs.Common.{length, ◌-◌, ◌+◌, ◌≤◌, ℕ, List, ◌*◌}
use Rattle.law_tree.specs.Asking.{MayAll, MayStays, MeaningStays}
use Rattle.law_tree.specs.Comparing.{AgreeBelow}
use Rattle.law_tree.proofs.compare.first_difference.Given as goal

abbrev pub invariant-loop-from : goal.invariant-loop-from
invariant-loop-from g l = record {
  within : l.from ≤ length l.tests;
  agree : AgreeBelow (g.A.Ask.means l.ask) l.item l.old l.tests l.from;
  may_item : MayAll (g.A.Ask.may l.ask) l.item l.tests;
  may_old : MayAll (g.A.Ask.may l.ask) l.old l.tests;
  tells : g.A.Ask.tells l.ask l.tests;
  asked : g.A.Ask.asks l.ask ≤ g.A.Ask.asks l.initial.ask + 2 * l.from;
  counted : g.A.Ask.asks l.initial.ask ≤ g.A.Ask.asks l.ask;
  may_stays : MayStays (g.A.Ask.may l.initial.ask) (g.A.Ask.may l.ask);
  meaning_stays : MeaningStays (g.A.Ask.means l.initial.ask) (g.A.Ask.means l.ask);
  telling_stays : (ts : List ℕ) → g.A.Ask.tells l.initial.ask ts → g.A.Ask.tells l.ask ts;
  faults : g.A.Ask.faults l.initial.ask ≤ g.A.Ask.faults l.ask;
}

abbrev pub decreases-loop-from : goal.decreases-loop-from
decreases-loop-from g l = length l.tests - l.from
