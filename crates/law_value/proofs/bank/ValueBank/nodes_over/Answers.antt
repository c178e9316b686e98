use Rattle.std.proofs.Common.{◌≡◌, length, arith}
use Rattle.std.proofs.lemmas.List.{length-map}
use Rattle.law_sig.specs.Trees.{node_count}
use Rattle.law_sig.proofs.SizeFacts.{counted_more}
use Rattle.law_ids.specs.Values.{tree_of, trees_of}
use Rattle.law_value.proofs.CellFacts.{trees_item}
use Rattle.law_value.proofs.bank.ValueBank.nodes_over.Goals as goal

pub loop-field-preserved : goal.loop-field-preserved
loop-field-preserved c =
    let n : length (trees_of c.args.self.now c.args.fields.now) ≡ length c.args.fields.now = length-map c.args.fields.now (tree_of c.args.self.now) in
    counted_more node_count (trees_of c.args.self.now c.args.fields.now) c.loop-field.field-index _ c.loop-field.count c.nodes.result _ c.saturating_add-count.result
    (omega arith) (trees_item c.args.self.now c.args.fields.now c.loop-field.field-index (record { 0 = 0 }) c.loop-field-test.true) c.loop-field.invariant c.nodes.ensures c.saturating_add-count.ensures
