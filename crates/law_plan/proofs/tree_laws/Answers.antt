-- Each law is proved by a lemma.
use Rattle.law_plan.proofs.OneTree.{by_flat_tests, trees_one}
use Rattle.law_plan.proofs.Planted.{placed_trees}
use Rattle.law_plan.proofs.tree_laws.Goals as goal

pub returns : goal.returns
returns c = record { trees = placed_trees; classes = by_flat_tests; one = trees_one }
