use Rattle.std.proofs.Common.{◌+◌, map, refl}
use denote.Bor.{Bor}
use Rattle.law_sig.specs.Lists.{total}
use Rattle.law_sig.specs.Tests.{weight}
use Rattle.law_bank.specs.declared.node.Node.{Node}
use Rattle.law_bank.specs.Terms.{trees_of}
use Rattle.law_bank.specs.Bank.{IsOf}
use Rattle.law_bank.proofs.BankFacts.{weight_is}
use Rattle.law_term.proofs.Items.{each_get, sum_more, sum_end}
use Rattle.law_term.proofs.bank.weight_over.Goals as goal

pub loop-arg-init : goal.loop-arg-init
loop-arg-init c = λ bank parts held e. record { fits = c.requires; is_whole = refl }

pub loop-arg-preserved : goal.loop-arg-preserved
loop-arg-preserved c = λ bank parts held e. sum_more (weight parts) c.args.args.now c.loop-arg.arg-index _ c.loop-arg.weight _ _ _ c.loop-arg-test.true (c.loop-arg.invariant bank parts held e)
    (weight_is bank parts _ (each_get (λ (b : Bor Node). IsOf bank b.now) c.args.args.now c.loop-arg.arg-index _ c.loop-arg-test.true held) e) c.saturating_add-weight.ensures

pub returns : goal.returns
returns c = λ bank parts held e. sum_end (weight parts) c.args.args.now c.loop-arg.arg-index c.loop-arg.weight (c.args.own + total (map (weight parts) (trees_of c.args.args.now))) c.loop-arg-test.false
    (c.loop-arg.invariant bank parts held e)
