use Rattle.std.proofs.Common.{◌≡◌, ◌<◌, length, arith}
use Rattle.law_ids.specs.declared.ids.ValueId.{ValueId}
use Rattle.law_ids.specs.Values.{IsOf, tree_of, fields_of}
use Rattle.law_value.proofs.CellFacts.{cell_field, cell_count, each_at}
use Rattle.law_ids.proofs.BankFacts.{earlier_held}
use Rattle.law_value.proofs.bank.ValueBank.field.Goals as goal

pub index-requires : goal.index-requires
index-requires c =
    let count : length c.cell.result.now.fields.items ≡ length (fields_of (tree_of c.args.self.now c.args.id)) = cell_count c.args.self.now c.args.id c.cell.result.now c.cell.ensures.cell in
    let len = c.cell.result.now.fields.ok.0 in
    omega arith

pub returns-clause-id : goal.returns-clause-id
returns-clause-id c =
    let count : length c.cell.result.now.fields.items ≡ length (fields_of (tree_of c.args.self.now c.args.id)) = cell_count c.args.self.now c.args.id c.cell.result.now c.cell.ensures.cell in
    each_at (IsOf c.args.self.now) _ c.args.at _ (omega arith) c.index.ensures (earlier_held c.args.self.now c.args.id.0 _ c.requires.id c.cell.ensures.cell.earlier)

pub returns-clause-tree : goal.returns-clause-tree
returns-clause-tree c =
    let count : length c.cell.result.now.fields.items ≡ length (fields_of (tree_of c.args.self.now c.args.id)) = cell_count c.args.self.now c.args.id c.cell.result.now c.cell.ensures.cell in
    cell_field c.args.self.now c.args.id c.cell.result.now c.args.at _ c.cell.ensures.cell (omega arith) c.index.ensures

pub returns-clause-earlier : goal.returns-clause-earlier
returns-clause-earlier c =
    let count : length c.cell.result.now.fields.items ≡ length (fields_of (tree_of c.args.self.now c.args.id)) = cell_count c.args.self.now c.args.id c.cell.result.now c.cell.ensures.cell in
    each_at (λ (v : ValueId). v.0 < c.args.id.0) _ c.args.at _ (omega arith) c.index.ensures c.cell.ensures.cell.earlier
