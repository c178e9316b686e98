use Rattle.std.proofs.Common.{ℕ, length}
use Rattle.law_sig.specs.Counts.{stopped, terms_at}
use Rattle.law_sig.proofs.TermCounts.{row_more}
use Rattle.law_sig.proofs.counts.next_row.Goals as goal

pub loop-sort-preserved : goal.loop-sort-preserved
loop-sort-preserved c = row_more c.loop-sort.sort (λ (sort : ℕ). stopped (terms_at c.args.sig.now c.args.rows.now (length c.args.rows.now) (record { 0 = sort }))) c.loop-sort.row c.push.new.self
    c.in_ok-terms_of.field-0 c.loop-sort.invariant c.in_ok-terms_of.ensures c.in_ok-push.ensures.ok
