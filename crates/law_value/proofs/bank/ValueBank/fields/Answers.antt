use Rattle.std.proofs.Common.{◌∙◌}
use Rattle.law_value.proofs.CellFacts.{cell_count}
use Rattle.law_value.proofs.bank.ValueBank.fields.Goals as goal

pub returns : goal.returns
returns c = c.len.ensures ∙ c.cell.result.now.fields.ok.0 ∙ cell_count c.args.self.now c.args.id c.cell.result.now c.cell.ensures.cell
