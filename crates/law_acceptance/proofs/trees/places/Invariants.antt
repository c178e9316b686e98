use Rattle.std.proofs.Common.{ℕ}
use Rattle.law_tree.specs.Grown.{IsTree}
use Rattle.law_acceptance.proofs.trees.places.Given as goal

abbrev pub invariant-loop-item : goal.invariant-loop-item
invariant-loop-item g l = record {
  may : (x : g.row.T.Denot) (test : ℕ) → g.A.Ask.may l.ask x test;
  tells : g.A.Ask.tells l.ask l.tree.tests;
  tree : IsTree (g.A.Ask.means l.ask) l.tree;
}
