use Rattle.std.proofs.Common.{◌≡◌, ◌+◌, ◌*◌, ◌<◌, ◌≤◌, ◌^◌, map, drop}
use Rattle.law_sig.specs.Lists.{total}
use Rattle.law_sig.specs.Trees.{node_count}
use Rattle.law_bank.specs.Terms.{tree_of, trees_of}
use Rattle.law_bank.specs.Bank.{capped}
use Rattle.law_term.proofs.Counting.{in_tree, in_trees}
use Rattle.law_term.proofs.vars.+counting.Given as goal

abbrev pub decreases-occurrences_among : goal.decreases-occurrences_among
decreases-occurrences_among l = 2 * total (map node_count (trees_of l.terms.now)) + 1

abbrev pub decreases-occurrences : goal.decreases-occurrences
decreases-occurrences l = 2 * node_count (tree_of l.term.now)

abbrev pub invariant-occurrences_among-loop-term : goal.invariant-occurrences_among-loop-term
invariant-occurrences_among-loop-term l = record {
  small : l.count < 2 ^ 64;
  so_far : capped (l.count + in_trees l.sort l.index (trees_of (drop l.term-index l.terms))) ≡ capped (in_trees l.sort l.index (trees_of l.terms));
}

abbrev pub invariant-occurrences-loop-at : goal.invariant-occurrences-loop-at
invariant-occurrences-loop-at l = record {
  small : l.count < 2 ^ 64;
  fewer : node_count (tree_of l.at.term.now) ≤ node_count (tree_of l.term);
  so_far : capped (l.count + in_tree l.sort l.index (tree_of l.at.term.now)) ≡ capped (in_tree l.sort l.index (tree_of l.term));
}

abbrev pub decreases-occurrences-loop-at : goal.decreases-occurrences-loop-at
decreases-occurrences-loop-at l = node_count (tree_of l.at.term.now)
