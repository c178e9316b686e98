use Rattle.std.proofs.Common.{sym, ◌∙◌}
use Rattle.law_bank.specs.Bank.{IsOf}
use Rattle.law_bank.specs.Bindings.{Binding}
use Rattle.law_term.proofs.Items.{each_get}
use Rattle.law_term.proofs.Bound.{found_here, found_next, found_none}
use Rattle.law_term.proofs.subst.find.Goals as goal

pub returns-then-is_variable-clause-found : goal.returns-then-is_variable-clause-found
returns-then-is_variable-clause-found c = found_here c.args.sort c.args.index c.args.bindings.now c.loop-at.at _ c.loop-at-test.true c.loop-at.invariant (sym c.is_variable.ensures ∙ c.if-is_variable.true)

pub returns-then-is_variable-clause-held : goal.returns-then-is_variable-clause-held
returns-then-is_variable-clause-held c = λ bank held. each_get (λ (b : Binding). IsOf bank b.2.now) c.args.bindings.now c.loop-at.at _ c.loop-at-test.true held

pub loop-at-preserved : goal.loop-at-preserved
loop-at-preserved c = found_next c.args.sort c.args.index c.args.bindings.now c.loop-at.at _ c.loop-at-test.true c.loop-at.invariant (sym c.is_variable.ensures ∙ c.if-is_variable.false)

pub returns-clause-found : goal.returns-clause-found
returns-clause-found c = found_none c.args.sort c.args.index c.args.bindings.now c.loop-at.at c.loop-at-test.false c.loop-at.invariant
