-- Each law is proved by a lemma.
use Rattle.law_plan.proofs.Filed.{found_at_leaf, none_at_split, below_class, none_without, none_in_other, found_in_trees}
use Rattle.law_plan.proofs.found_laws.Goals as goal

pub returns : goal.returns
returns c = record {
  leaf = found_at_leaf;
  split = none_at_split;
  below = below_class;
  without = none_without;
  other = none_in_other;
  trees = λ parts pools sort spreads lives firsts held classes tree owned filed t t_in. found_in_trees parts pools sort spreads lives firsts classes owned filed t t_in held tree;
}
