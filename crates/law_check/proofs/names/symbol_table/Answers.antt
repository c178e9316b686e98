use Rattle.std.proofs.Common.{rules}
use Rattle.law_checking.proofs.NameFacts.{finds_next}
use Rattle.law_check.proofs.names.symbol_table.Goals as goal

pub loop-at-preserved : goal.loop-at-preserved
loop-at-preserved c = finds_next c.args.sig.now.symbol_names c.loop-at.at c.in-Some.name.now c.loop-at.table.entries c.in_ok-table.table.entries (search rules)
    c.loop-at.invariant c.in_ok-table.ensures
