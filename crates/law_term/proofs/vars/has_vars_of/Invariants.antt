use Rattle.law_bank.specs.Terms.{tree_of}
use Rattle.law_term.proofs.Covering.{AreCovered, behind_count}
use Rattle.law_term.proofs.vars.has_vars_of.Given as goal

abbrev pub invariant-loop-sort : goal.invariant-loop-sort
invariant-loop-sort l = AreCovered l.a l.b l.last

abbrev pub decreases-loop-sort : goal.decreases-loop-sort
decreases-loop-sort l = behind_count l.last (tree_of l.b)
