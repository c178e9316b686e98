use Rattle.std.proofs.Common.{subst}
use Rattle.law_bank.specs.Terms.{tree_of}
use Rattle.law_term.specs.Places.{IsWay}
use Rattle.law_term.proofs.Items.{when_some}
use Rattle.law_term.proofs.Placing.{rise_start, rise_held, rise_within, rise_on}
use Rattle.law_term.proofs.bank.TermBank.replace_at.Goals as goal

pub loop-node-init : goal.loop-node-init
loop-node-init c = rise_start c.args.self.now c.args.term.now c.args.at.now c.args.new.now c.in-Some.way.items c.requires.term c.requires.new
    (subst (λ p. IsWay c.args.term.now c.in-Some.way.items p) c.as_slice.ensures (when_some _ _ _ _ c.in-Some.is c.in_ok-found.ensures))

pub with_arg-requires-clause-term : goal.with_arg-requires-clause-term
with_arg-requires-clause-term c = rise_held c.args.self.now c.loop-node.self c.args.term.now c.args.at.now (tree_of c.args.new.now) c.loop-node.way.items c.pop.new.self.items
    c.in-Some-pop.node c.in-Some-pop.number c.loop-node.here.term c.loop-node.invariant c.in-Some-pop.ensures.items

pub with_arg-requires-clause-within : goal.with_arg-requires-clause-within
with_arg-requires-clause-within c = rise_within c.args.self.now c.loop-node.self c.args.term.now c.args.at.now (tree_of c.args.new.now) c.loop-node.way.items c.pop.new.self.items
    c.in-Some-pop.node c.in-Some-pop.number c.loop-node.here.term c.loop-node.invariant c.in-Some-pop.ensures.items

pub loop-node-preserved : goal.loop-node-preserved
loop-node-preserved c = rise_on c.args.self.now c.loop-node.self c.args.term.now c.args.at.now (tree_of c.args.new.now) c.loop-node.way.items c.pop.new.self.items
    c.in-Some-pop.node c.in-Some-pop.number c.loop-node.here.term c.loop-node.invariant c.in-Some-pop.ensures.items
    c.with_arg.new.bank c.in_ok-made.made.now c.in_ok-made.ensures.grows c.in_ok-made.ensures.held c.in_ok-made.ensures.tree
