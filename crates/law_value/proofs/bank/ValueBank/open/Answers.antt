use Rattle.std.proofs.Common.{subst, sym}
use Rattle.law_sig.specs.Lists.{Each}
use Rattle.law_ids.specs.Values.{tree_of}
use Rattle.law_value.specs.Writing.{IsPartOf}
use Rattle.law_ids.proofs.Tops.{pushed}
use Rattle.law_value.proofs.WriteFacts.{opening_next, opening_done}
use Rattle.law_value.proofs.bank.ValueBank.open.Goals as goal

pub loop-at-init : goal.loop-at-init
loop-at-init c = record {
  head = c.head-head.result;
  named = c.head-head.ensures.head;
  is = pushed _ _ _ _ c.in-Ok.ensures.items;
  held = subst (Each (IsPartOf c.args.self.now)) (sym (pushed (λ p. p) _ _ _ c.in-Ok.ensures.items)) (tt, c.requires.held);
}

pub loop-at-preserved : goal.loop-at-preserved
loop-at-preserved c = opening_next c.args.self.now (tree_of c.args.self.now c.args.id) c.loop-at.at _ _ _ _ c.field.result c.loop-at.invariant c.in-Ok-push.ensures.items c.field.ensures.id c.field.ensures.tree

pub returns-clause-held : goal.returns-clause-held
returns-clause-held c = c.loop-at.invariant.held

pub returns-clause-pieces : goal.returns-clause-pieces
returns-clause-pieces c = opening_done c.args.self.now (tree_of c.args.self.now c.args.id) c.loop-at.at _ _ _ c.loop-at.invariant c.loop-at-test.false c.fields-count.ensures
