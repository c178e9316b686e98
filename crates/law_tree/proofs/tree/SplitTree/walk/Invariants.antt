use Rattle.std.proofs.Common.{length, ◌-◌, ◌+◌, ◌<◌, ◌≤◌, ℕ, List}
use Rattle.law_tree.specs.Asking.{MayAll, MayStays, MeaningStays}
use Rattle.law_tree.specs.Looking.{Reaches}
use Rattle.law_tree.proofs.tree.SplitTree.walk.Given as goal

abbrev pub invariant-loop-number : goal.invariant-loop-number
invariant-loop-number g l = record {
  within : l.at < length l.self.nodes;
  may_item : MayAll (g.A.Ask.may l.ask) l.item l.self.tests;
  reached : (n : ℕ) × Reaches (g.A.Ask.means l.ask) l.item l.self.nodes l.at n × (g.A.Ask.asks l.ask ≤ g.A.Ask.asks l.initial.ask + n);
  counted : g.A.Ask.asks l.initial.ask ≤ g.A.Ask.asks l.ask;
  may_stays : MayStays (g.A.Ask.may l.initial.ask) (g.A.Ask.may l.ask);
  meaning_stays : MeaningStays (g.A.Ask.means l.initial.ask) (g.A.Ask.means l.ask);
  telling_stays : (ts : List ℕ) → g.A.Ask.tells l.initial.ask ts → g.A.Ask.tells l.ask ts;
  faults : g.A.Ask.faults l.initial.ask ≤ g.A.Ask.faults l.ask;
}

abbrev pub decreases-loop-number : goal.decreases-loop-number
decreases-loop-number g l = length l.self.nodes - l.at
