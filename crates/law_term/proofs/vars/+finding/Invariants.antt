use Rattle.std.proofs.Common.{◌+◌, ◌*◌, ◌≤◌, [], ◌∷◌, map, drop, Option}
use Rattle.law_sig.specs.Lists.{total}
use Rattle.law_sig.specs.Trees.{node_count}
use Rattle.law_bank.specs.Terms.{tree_of, trees_of}
use Rattle.law_term.specs.Variables.{Variable, IsFirst}
use Rattle.law_term.proofs.vars.+finding.Given as goal

abbrev pub decreases-first_among : goal.decreases-first_among
decreases-first_among l = 2 * total (map node_count (trees_of l.terms.now)) + 1

abbrev pub decreases-first_in : goal.decreases-first_in
decreases-first_in l = 2 * node_count (tree_of l.term.now)

abbrev pub invariant-first_among-loop-term : goal.invariant-first_among-loop-term
invariant-first_among-loop-term l = (r : Option Variable) → IsFirst l.after l.first (trees_of (drop l.term-index l.terms)) r → IsFirst l.after l.fn.given (trees_of l.terms) r

abbrev pub invariant-first_in-loop-at : goal.invariant-first_in-loop-at
invariant-first_in-loop-at l = record {
  fewer : node_count (tree_of l.at.term.now) ≤ node_count (tree_of l.term);
  rest : (r : Option Variable) → IsFirst l.after l.first (tree_of l.at.term.now ∷ []) r → IsFirst l.after l.fn.given (tree_of l.term ∷ []) r;
}

abbrev pub decreases-first_in-loop-at : goal.decreases-first_in-loop-at
decreases-first_in-loop-at l = node_count (tree_of l.at.term.now)
