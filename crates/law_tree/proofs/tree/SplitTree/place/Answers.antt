use Rattle.std.proofs.Common.{subst, Some, None}
use Rattle.law_tree.specs.declared.look.Look.{Look}
use Rattle.law_tree.specs.Looking.{IsLooked}
use Rattle.law_tree.proofs.Placing.{tree_with_child, tree_with_split, tree_of_one}
use Rattle.law_tree.proofs.Finding.{found_exact}
use Rattle.law_tree.proofs.tree.SplitTree.place.Goals as goal

pub returns-in-Ok-add_child-clause-tree : goal.returns-in-Ok-add_child-clause-tree
returns-in-Ok-add_child-clause-tree g c =
    let looked = subst (λ (z : Look). IsLooked (g.A.Ask.means c.look.new.ask) c.args.item c.args.self.now z) c.in-Child.is c.in-Ok.ensures.looked in
    tree_with_child (g.A.Ask.means c.look.new.ask) (g.met.A.Ask.one_value c.look.new.ask) c.args.item c.args.self.now c.look.ensures.tree c.made.ensures.nodes c.add_child.new.self
    c.add_child.ensures.tests c.in-Ok-add_child.ensures.items c.made.ensures.apart c.in-Child.at c.in-Child.value looked.0 c.in-Ok-add_child.ensures.nodes

pub returns-in-Ok-split_leaf-clause-tree : goal.returns-in-Ok-split_leaf-clause-tree
returns-in-Ok-split_leaf-clause-tree g c =
    let looked = subst (λ (z : Look). IsLooked (g.A.Ask.means c.look.new.ask) c.args.item c.args.self.now z) c.in-Apart.is c.in-Ok.ensures.looked in
    tree_with_split (g.A.Ask.means c.look.new.ask) (g.met.A.Ask.one_value c.look.new.ask) c.args.item c.args.self.now c.look.ensures.tree c.made.ensures.nodes c.split_leaf.new.self
    c.split_leaf.ensures.tests c.in-Ok-split_leaf.ensures.items c.made.ensures.apart c.made.ensures.rising c.in-Apart.at c.in-Apart.old c.in-Apart.difference looked.0 c.in-Ok-split_leaf.ensures.nodes

pub returns-in-Same-clause-exact : goal.returns-in-Same-clause-exact
returns-in-Same-clause-exact g c =
    let looked = subst (λ (z : Look). IsLooked (g.A.Ask.means c.look.new.ask) c.args.item c.args.self.now z) c.in-Same.is c.in-Ok.ensures.looked in
    found_exact (g.A.Ask.means c.look.new.ask) (g.met.A.Ask.one_value c.look.new.ask) c.args.item c.args.self.now (Some c.in-Same.old) looked

pub returns-in-Ok-plant-clause-exact : goal.returns-in-Ok-plant-clause-exact
returns-in-Ok-plant-clause-exact g c =
    let looked = subst (λ (z : Look). IsLooked (g.A.Ask.means c.look.new.ask) c.args.item c.args.self.now z) c.in-Empty.is c.in-Ok.ensures.looked in
    found_exact (g.A.Ask.means c.look.new.ask) (g.met.A.Ask.one_value c.look.new.ask) c.args.item c.args.self.now None looked.1

pub returns-in-Ok-add_child-clause-exact : goal.returns-in-Ok-add_child-clause-exact
returns-in-Ok-add_child-clause-exact g c =
    let looked = subst (λ (z : Look). IsLooked (g.A.Ask.means c.look.new.ask) c.args.item c.args.self.now z) c.in-Child.is c.in-Ok.ensures.looked in
    found_exact (g.A.Ask.means c.look.new.ask) (g.met.A.Ask.one_value c.look.new.ask) c.args.item c.args.self.now None looked.1

pub returns-in-Ok-split_leaf-clause-exact : goal.returns-in-Ok-split_leaf-clause-exact
returns-in-Ok-split_leaf-clause-exact g c =
    let looked = subst (λ (z : Look). IsLooked (g.A.Ask.means c.look.new.ask) c.args.item c.args.self.now z) c.in-Apart.is c.in-Ok.ensures.looked in
    found_exact (g.A.Ask.means c.look.new.ask) (g.met.A.Ask.one_value c.look.new.ask) c.args.item c.args.self.now None looked.1

pub returns-in-Ok-plant-clause-tree : goal.returns-in-Ok-plant-clause-tree
returns-in-Ok-plant-clause-tree g c =
    let looked = subst (λ (z : Look). IsLooked (g.A.Ask.means c.look.new.ask) c.args.item c.args.self.now z) c.in-Empty.is c.in-Ok.ensures.looked in
    tree_of_one (g.A.Ask.means c.look.new.ask) (g.met.A.Ask.one_value c.look.new.ask) c.args.item c.args.self.now c.look.ensures.tree c.made.ensures.nodes c.plant.new.self
    c.plant.ensures.tests c.in-Ok-plant.ensures.items looked.0 c.in-Ok-plant.ensures.nodes
