use Rattle.std.proofs.Common.{◌+◌, map, drop}
use Rattle.law_sig.specs.Lists.{total}
use Rattle.law_sig.specs.Trees.{node_count}
use Rattle.law_sig.proofs.SizeFacts.{Counted}
use Rattle.law_ids.specs.Values.{trees_of}
use Rattle.law_value.proofs.bank.ValueBank.nodes_over.Given as goal

abbrev pub invariant-loop-field : goal.invariant-loop-field
invariant-loop-field l =
    Counted l.count (drop l.field-index (map node_count (trees_of l.self l.fields))) (1 + total (map node_count (trees_of l.self l.fields)))
