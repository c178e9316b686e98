use Rattle.law_bank.specs.Terms.{tree_of}
use Rattle.law_bank.specs.Bank.{sorts_by}
use Rattle.law_bank.specs.Bindings.{AllBound, AreRising, binds_of}
use Rattle.law_term.specs.Turns.{open_of, AllOpen, nodes, IsMatched}
use Rattle.law_term.proofs.matching.matches.Given as goal

abbrev pub invariant-loop-a : goal.invariant-loop-a
invariant-loop-a l = record {
  open_held : AllOpen l.bank l.left.items;
  bound_held : AllBound l.bank l.bound;
  rising : AreRising l.bound;
  is : IsMatched (sorts_by l.bank.sorts) (tree_of l.pattern) (tree_of l.term) (open_of l.left.items) (binds_of l.bound);
}

abbrev pub decreases-loop-a : goal.decreases-loop-a
decreases-loop-a l = nodes (open_of l.left.items)
