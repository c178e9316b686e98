use Rattle.std.proofs.Common.{List, subst, sym}
use Rattle.law_sig.specs.declared.tree.Tree.{Tree}
use Rattle.law_value.specs.Cells.{IsCell}
use Rattle.law_value.proofs.bank.ValueBank.cell.Goals as goal

pub returns-clause-cell : goal.returns-clause-cell
returns-clause-cell c =
    subst (λ (bank : List Tree). IsCell bank c.args.id.0 c.in-Some.cell.now) c.self.view_is
    (c.self.invariant.each c.args.id.0 c.in-Some.cell.now (sym c.in-Some.ensures.key))
