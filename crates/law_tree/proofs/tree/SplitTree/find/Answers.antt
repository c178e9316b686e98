use Rattle.std.proofs.Common.{subst, Some, None}
use Rattle.law_tree.specs.declared.look.Look.{Look}
use Rattle.law_tree.specs.Looking.{IsLooked}
use Rattle.law_tree.proofs.Finding.{found_exact}
use Rattle.law_tree.proofs.tree.SplitTree.find.Goals as goal

pub returns-in-Same-clause-exact : goal.returns-in-Same-clause-exact
returns-in-Same-clause-exact g c =
    let looked = subst (λ (z : Look). IsLooked (g.A.Ask.means c.look.new.ask) c.args.item c.args.self.now z) c.in-Same.is c.in_ok-number.ensures.looked in
    found_exact (g.A.Ask.means c.look.new.ask) (g.met.A.Ask.one_value c.look.new.ask) c.args.item c.args.self.now (Some c.in-Same.number) looked

pub returns-in-Empty-clause-exact : goal.returns-in-Empty-clause-exact
returns-in-Empty-clause-exact g c =
    let looked = subst (λ (z : Look). IsLooked (g.A.Ask.means c.look.new.ask) c.args.item c.args.self.now z) c.in-Empty.is c.in_ok-number.ensures.looked in
    found_exact (g.A.Ask.means c.look.new.ask) (g.met.A.Ask.one_value c.look.new.ask) c.args.item c.args.self.now None looked.1

pub returns-in-Child-clause-exact : goal.returns-in-Child-clause-exact
returns-in-Child-clause-exact g c =
    let looked = subst (λ (z : Look). IsLooked (g.A.Ask.means c.look.new.ask) c.args.item c.args.self.now z) c.in-Child.is c.in_ok-number.ensures.looked in
    found_exact (g.A.Ask.means c.look.new.ask) (g.met.A.Ask.one_value c.look.new.ask) c.args.item c.args.self.now None looked.1

pub returns-in-Apart-clause-exact : goal.returns-in-Apart-clause-exact
returns-in-Apart-clause-exact g c =
    let looked = subst (λ (z : Look). IsLooked (g.A.Ask.means c.look.new.ask) c.args.item c.args.self.now z) c.in-Apart.is c.in_ok-number.ensures.looked in
    found_exact (g.A.Ask.means c.look.new.ask) (g.met.A.Ask.one_value c.look.new.ask) c.args.item c.args.self.now None looked.1
