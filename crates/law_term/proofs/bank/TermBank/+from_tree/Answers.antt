use Rattle.law_bank.proofs.BankFacts.{grows_on}
use Rattle.law_term.proofs.ReadFacts.{read_held, read_trees}
use Rattle.law_term.proofs.bank.TermBank.+from_tree.Goals as goal

pub loop-arg-preserved : goal.loop-arg-preserved
loop-arg-preserved t c =
    let one = c.in_ok-term-in-App.ensures in
    record {
      grows = grows_on c.args.self.now c.loop-arg.self c.from_tree.new.self c.loop-arg.invariant.grows one.grows;
      held = read_held c.loop-arg.self c.from_tree.new.self c.loop-arg.terms.items c.push.new.self.items c.in_ok-term-in-App.term one.grows c.in-Ok.ensures.items c.loop-arg.invariant.held one.held;
      trees = read_trees c.loop-arg.self c.from_tree.new.self c.loop-arg.terms.items c.push.new.self.items c.in_ok-term-in-App.term one.grows c.in-Ok.ensures.items
          c.as_slice-arg-items.result.now c.loop-arg.arg-index c.arg-item.result c.loop-arg-test.true c.arg-item.is one.tree c.loop-arg.invariant.trees;
    }
