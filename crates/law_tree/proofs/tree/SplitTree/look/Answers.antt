use Rattle.std.proofs.Common.{◌+◌, ◌≤◌, subst, rules}
use Rattle.law_tree.specs.Grown.{IsTree}
use Rattle.law_tree.specs.Looking.{IsAtLeaf}
use Rattle.law_tree.specs.Finding.{IsAsked}
use Rattle.law_sig.specs.Lists.{In}
use Rattle.law_tree.proofs.ListFacts.{get_in}
use Rattle.law_tree.proofs.Comparing.{meaning_after, passed}
use Rattle.law_tree.proofs.Placing.{more_meant, way_stays, leaf_number_within, other_at_split, none_in_empty}
use Rattle.law_tree.proofs.Finding.{ends_at_leaf, ends_at_split, leaf_stays, stopped_asked, split_asked, leaf_asked, same_found, apart_found, of_item, of_two}
use Rattle.law_tree.proofs.tree.SplitTree.look.Goals as goal
use Rattle.law_tree.proofs.tree.SplitTree.look.Goals.{After-walk, In-Leaf, After-first_difference}

-- the tree as the walk left the ask, and where the walk ended at a leaf
walked : (g : _) (c : After-walk g) → IsTree (g.A.Ask.means c.walk.new.ask) c.args.self.now
walked g c = more_meant (g.A.Ask.means c.args.ask.now) (g.A.Ask.means c.walk.new.ask) c.walk.ensures.meaning_stays c.args.self.now c.requires.tree

at_leaf : (g : _) (c : In-Leaf g) → (h : IsAtLeaf (g.A.Ask.means c.walk.new.ask) c.args.item c.args.self.now c.in-Leaf.at c.in-Leaf.number) × (g.A.Ask.asks c.walk.new.ask ≤ g.A.Ask.asks c.args.ask.now + h.splits)
at_leaf g c = ends_at_leaf (g.A.Ask.means c.walk.new.ask) c.args.item c.args.self.now (g.A.Ask.asks c.args.ask.now) (g.A.Ask.asks c.walk.new.ask) c.in_ok-at.field-0 c.in-Leaf.at c.in-Leaf.number c.in-Leaf.is c.in_ok-at.ensures.end

compared : (g : _) (c : After-first_difference g) → IsTree (g.A.Ask.means c.first_difference.new.ask) c.args.self.now
compared g c =
    more_meant (g.A.Ask.means c.args.ask.now) (g.A.Ask.means c.first_difference.new.ask) (meaning_after _ _ _ c.walk.ensures.meaning_stays c.first_difference.ensures.meaning_stays) c.args.self.now c.requires.tree

pub item-old-requires : goal.item-old-requires
item-old-requires g c =
    leaf_number_within (g.A.Ask.means c.walk.new.ask) (g.met.A.Ask.one_value c.walk.new.ask) c.args.item c.args.self.now (walked g (goal.at.item-old-requires g c).After-walk) c.made.ensures.nodes
    c.in-Leaf.at c.in-Leaf.number (at_leaf g (goal.at.item-old-requires g c).In-Leaf).0

still_at_leaf : (g : _) (c : After-first_difference g) → (h : IsAtLeaf (g.A.Ask.means c.walk.new.ask) c.args.item c.args.self.now c.in-Leaf.at c.in-Leaf.number) × (g.A.Ask.asks c.walk.new.ask ≤ g.A.Ask.asks c.args.ask.now + h.splits)
still_at_leaf g c = ends_at_leaf (g.A.Ask.means c.walk.new.ask) c.args.item c.args.self.now (g.A.Ask.asks c.args.ask.now) (g.A.Ask.asks c.walk.new.ask) c.in_ok-at.field-0 c.in-Leaf.at c.in-Leaf.number c.in-Leaf.is c.in_ok-at.ensures.end

-- and the leaf, as the comparison left the ask
leaf_now : (g : _) (c : After-first_difference g) → IsAtLeaf (g.A.Ask.means c.first_difference.new.ask) c.args.item c.args.self.now c.in-Leaf.at c.in-Leaf.number
leaf_now g c = leaf_stays (g.A.Ask.means c.walk.new.ask) (g.A.Ask.means c.first_difference.new.ask) c.first_difference.ensures.meaning_stays c.args.item c.args.self.now c.in-Leaf.at c.in-Leaf.number (still_at_leaf g c).0

asked : (g : _) (c : After-first_difference g) → IsAsked (g.A.Ask.means c.first_difference.new.ask) c.args.item c.args.self.now (g.A.Ask.asks c.args.ask.now) (g.A.Ask.asks c.first_difference.new.ask)
asked g c =
    let end = still_at_leaf g c in
    leaf_asked (g.A.Ask.means c.first_difference.new.ask) (g.met.A.Ask.one_value c.first_difference.new.ask) c.args.item c.args.self.now (compared g c) c.made.ensures.nodes
    (g.A.Ask.asks c.args.ask.now) (g.A.Ask.asks c.walk.new.ask) (g.A.Ask.asks c.first_difference.new.ask) c.in-Leaf.at c.in-Leaf.number end.0.splits
    (way_stays (g.A.Ask.means c.walk.new.ask) (g.A.Ask.means c.first_difference.new.ask) c.first_difference.ensures.meaning_stays c.args.item c.args.self.now.nodes c.in-Leaf.at end.0.splits end.0.way) end.0.leaf
    c.item-old.result c.item-old.ensures c.tests.result.now c.tests.ensures end.1 c.first_difference.ensures.asked

pub returns-then-is_empty-clause-looked : goal.returns-then-is_empty-clause-looked
returns-then-is_empty-clause-looked g c =
    let empty = c.if-is_empty.ensures.yes (search rules) in (
      empty,
      none_in_empty (g.A.Ask.means c.args.ask.now) (g.met.A.Ask.one_value c.args.ask.now) c.args.item c.args.self.now c.requires.tree c.made.ensures.nodes empty,
    )

pub returns-in_err-at-clause-asked : goal.returns-in_err-at-clause-asked
returns-in_err-at-clause-asked g c =
    stopped_asked (g.A.Ask.means c.walk.new.ask) (g.met.A.Ask.one_value c.walk.new.ask) c.args.item c.args.self.now (walked g (goal.at.returns-in_err-at-clause-asked g c).After-walk) c.made.ensures.nodes (g.A.Ask.asks c.args.ask.now) (g.A.Ask.asks c.walk.new.ask) c.in_err-at.ensures.asked

pub returns-in_err-at-clause-fault : goal.returns-in_err-at-clause-fault
returns-in_err-at-clause-fault g c =
    passed _ _ _ c.from_residual.ensures.1 (of_item (g.A.Ask.true_fault c.walk.new.ask) c.args.self.now.items c.args.item c.args.self.now.tests c.in_err-at.field-0.0 c.in_err-at.ensures.fault)

pub returns-in_err-at-clause-tree : goal.returns-in_err-at-clause-tree
returns-in_err-at-clause-tree g c =
    walked g (goal.at.returns-in_err-at-clause-tree g c).After-walk

pub first_difference-requires-clause-may_old : goal.first_difference-requires-clause-may_old
first_difference-requires-clause-may_old g c =
    λ t at. c.walk.ensures.may_stays _ _ (c.requires.may_old c.item-old.result (get_in c.args.self.now.items c.in-Leaf.number c.item-old.result c.item-old.ensures) t (subst (λ z. In t z) c.tests.ensures at))

pub returns-in_err-first_difference-in-Leaf-clause-asked : goal.returns-in_err-first_difference-in-Leaf-clause-asked
returns-in_err-first_difference-in-Leaf-clause-asked g c =
    asked g (goal.at.returns-in_err-first_difference-in-Leaf-clause-asked g c).After-first_difference

pub returns-in_err-first_difference-in-Leaf-clause-fault : goal.returns-in_err-first_difference-in-Leaf-clause-fault
returns-in_err-first_difference-in-Leaf-clause-fault g c =
    passed _ _ _ c.from_residual-in_err-first_difference-in-Leaf.ensures.1
    (of_two (g.A.Ask.true_fault c.first_difference.new.ask) c.args.self.now.items c.args.item c.args.self.now.tests c.in_err-first_difference-in-Leaf.field-0.0 c.in-Leaf.number c.item-old.result c.item-old.ensures
    c.tests.result.now c.tests.ensures c.in_err-first_difference-in-Leaf.ensures.fault)

pub returns-in_err-first_difference-in-Leaf-clause-tree : goal.returns-in_err-first_difference-in-Leaf-clause-tree
returns-in_err-first_difference-in-Leaf-clause-tree g c =
    compared g (goal.at.returns-in_err-first_difference-in-Leaf-clause-tree g c).After-first_difference

pub returns-in-Split-clause-looked : goal.returns-in-Split-clause-looked
returns-in-Split-clause-looked g c =
    let end = ends_at_split (g.A.Ask.means c.walk.new.ask) c.args.item c.args.self.now (g.A.Ask.asks c.args.ask.now) (g.A.Ask.asks c.walk.new.ask) c.in_ok-at.field-0 c.in-Split.at c.in-Split.value c.in-Split.is c.in_ok-at.ensures.end in (
      end.0,
      other_at_split (g.A.Ask.means c.walk.new.ask) (g.met.A.Ask.one_value c.walk.new.ask) c.args.item c.args.self.now (walked g (goal.at.returns-in-Split-clause-looked g c).After-walk) c.made.ensures.nodes c.in-Split.at c.in-Split.value end.0,
    )

pub returns-in-Split-clause-asked : goal.returns-in-Split-clause-asked
returns-in-Split-clause-asked g c =
    let end = ends_at_split (g.A.Ask.means c.walk.new.ask) c.args.item c.args.self.now (g.A.Ask.asks c.args.ask.now) (g.A.Ask.asks c.walk.new.ask) c.in_ok-at.field-0 c.in-Split.at c.in-Split.value c.in-Split.is c.in_ok-at.ensures.end in
    split_asked (g.A.Ask.means c.walk.new.ask) (g.met.A.Ask.one_value c.walk.new.ask) c.args.item c.args.self.now (walked g (goal.at.returns-in-Split-clause-asked g c).After-walk) c.made.ensures.nodes (g.A.Ask.asks c.args.ask.now) (g.A.Ask.asks c.walk.new.ask) c.in-Split.at c.in-Split.value end.0 end.1

pub returns-in-Split-clause-tree : goal.returns-in-Split-clause-tree
returns-in-Split-clause-tree g c =
    walked g (goal.at.returns-in-Split-clause-tree g c).After-walk

pub returns-in-None-clause-looked : goal.returns-in-None-clause-looked
returns-in-None-clause-looked g c =
    let r = (goal.at.returns-in-None-clause-looked g c).After-first_difference in
    same_found (g.A.Ask.means c.first_difference.new.ask) (g.met.A.Ask.one_value c.first_difference.new.ask) c.args.item c.args.self.now (compared g r) c.made.ensures.nodes c.in-Leaf.at c.in-Leaf.number (leaf_now g r) c.item-old.result c.item-old.ensures c.tests.result.now c.tests.ensures c.in_ok-first_difference-in-Leaf.field-0 c.in-None.is c.in_ok-first_difference-in-Leaf.ensures.compared

pub returns-in-None-clause-asked : goal.returns-in-None-clause-asked
returns-in-None-clause-asked g c =
    asked g (goal.at.returns-in-None-clause-asked g c).After-first_difference

pub returns-in-None-clause-tree : goal.returns-in-None-clause-tree
returns-in-None-clause-tree g c =
    compared g (goal.at.returns-in-None-clause-tree g c).After-first_difference

pub returns-in-Some-clause-looked : goal.returns-in-Some-clause-looked
returns-in-Some-clause-looked g c =
    let r = (goal.at.returns-in-Some-clause-looked g c).After-first_difference in
    apart_found (g.A.Ask.means c.first_difference.new.ask) (g.met.A.Ask.one_value c.first_difference.new.ask) c.args.item c.args.self.now (compared g r) c.made.ensures.nodes c.in-Leaf.at c.in-Leaf.number (leaf_now g r) c.item-old.result c.item-old.ensures c.tests.result.now c.tests.ensures c.in_ok-first_difference-in-Leaf.field-0 c.in-Some.difference c.in-Some.is c.in_ok-first_difference-in-Leaf.ensures.compared

pub returns-in-Some-clause-asked : goal.returns-in-Some-clause-asked
returns-in-Some-clause-asked g c =
    asked g (goal.at.returns-in-Some-clause-asked g c).After-first_difference

pub returns-in-Some-clause-tree : goal.returns-in-Some-clause-tree
returns-in-Some-clause-tree g c =
    compared g (goal.at.returns-in-Some-clause-tree g c).After-first_difference
