use Rattle.std.proofs.Common.{◌≤◌, ℕ, List, ◌-◌, suc, length, drop, slice_index_or, sym, ap, ◌∙◌, arith}
use Rattle.law_sig.specs.Tests.{first_of}
use Rattle.law_sig.specs.Counts.{stopped, lists_at}
use Rattle.law_sig.specs.declared.tree.SortId.{SortId}
use Rattle.law_sig.proofs.TermCounts.{lists_more, no_lists, one_before, drop_end}
use Rattle.law_sig.proofs.counts.lists_of.Goals as goal

abbrev lists_to : List (List ℕ) → List SortId → ℕ → List ℕ
lists_to rows sorts weight = first_of (suc weight) (λ w. stopped (lists_at rows sorts w))

pub loop-done-init : goal.loop-done-init
loop-done-init c =
    let all : length c.args.sorts.now ≤ length c.args.sorts.now - 0 = omega arith in
    c.in_ok-lists.ensures ∙ no_lists c.args.rows.now (suc c.args.weight)
    ∙ ap (λ ss. lists_to c.args.rows.now ss c.args.weight) (sym (drop_end c.args.sorts.now (length c.args.sorts.now - 0) all))

pub loop-done-preserved : goal.loop-done-preserved
loop-done-preserved c =
    lists_more c.args.rows.now (slice_index_or c.args.sorts.now (length c.args.sorts.now - 1 - c.loop-done.done) (record { 0 = 0 }))
    (drop (length c.args.sorts.now - c.loop-done.done) c.args.sorts.now) c.args.weight c.as_slice.result.now c.in_ok-lists-2.lists (c.as_slice.ensures ∙ c.loop-done.invariant)
    c.in_ok-lists-2.ensures
    ∙ ap (λ ss. lists_to c.args.rows.now ss c.args.weight) (sym (one_before c.args.sorts.now c.loop-done.done (record { 0 = 0 }) c.loop-done-test.true))
