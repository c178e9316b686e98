use Rattle.std.proofs.Common.{◌≡◌, take}
use Rattle.law_schema.specs.Columns.{columns_of, counts_below}
use Rattle.law_schema.proofs.stock.counts_below.Given as goal

abbrev pub invariant-loop-sort : goal.invariant-loop-sort
invariant-loop-sort l = l.counts ≡ counts_below (columns_of l.columns) l.weight (take l.sort-index l.sorts)
