use Rattle.std.proofs.Common.{◌+◌, map, refl, arith}
use denote.Bor.{Bor}
use Rattle.law_sig.specs.Lists.{total}
use Rattle.law_sig.specs.Trees.{node_count}
use Rattle.law_bank.specs.declared.node.Node.{Node}
use Rattle.law_bank.specs.Terms.{trees_of}
use Rattle.law_bank.specs.Bank.{IsOf}
use Rattle.law_bank.proofs.BankFacts.{size_is}
use Rattle.law_term.proofs.Items.{each_get, sum_more, sum_end}
use Rattle.law_term.proofs.bank.size_over.Goals as goal

pub loop-arg-init : goal.loop-arg-init
loop-arg-init c = λ bank held. record { fits = omega arith; is_whole = refl }

pub loop-arg-preserved : goal.loop-arg-preserved
loop-arg-preserved c = λ bank held. sum_more node_count c.args.args.now c.loop-arg.arg-index _ c.loop-arg.size _ _ _ c.loop-arg-test.true (c.loop-arg.invariant bank held)
    (size_is bank _ (each_get (λ (b : Bor Node). IsOf bank b.now) c.args.args.now c.loop-arg.arg-index _ c.loop-arg-test.true held)) c.saturating_add-size.ensures

pub returns : goal.returns
returns c = λ bank held. sum_end node_count c.args.args.now c.loop-arg.arg-index c.loop-arg.size (1 + total (map node_count (trees_of c.args.args.now))) c.loop-arg-test.false (c.loop-arg.invariant bank held)
