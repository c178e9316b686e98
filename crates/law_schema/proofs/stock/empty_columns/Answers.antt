use Rattle.law_schema.proofs.Making.{fresh_more}
use Rattle.law_schema.proofs.stock.empty_columns.Goals as goal

pub loop-sort-preserved : goal.loop-sort-preserved
loop-sort-preserved c = fresh_more c.args.size c.loop-sort._sort c.loop-sort.columns.items c.push.new.self.items c.in_ok-column.column c.loop-sort.invariant c.in_ok-column.ensures.long c.in_ok-column.ensures.bare c.in-Ok.ensures.items
