use Rattle.law_value.proofs.CellFacts.{cell_head}
use Rattle.law_value.proofs.bank.ValueBank.head.Goals as goal

pub returns-clause-head : goal.returns-clause-head
returns-clause-head c = cell_head c.args.self.now c.args.id _ c.cell.ensures.cell
