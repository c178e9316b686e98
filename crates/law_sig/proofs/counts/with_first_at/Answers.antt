use Rattle.std.proofs.Common.{ℕ, suc, ◌≡◌, ◌-◌, ◌*◌, ◌^◌, min, slice_index_or, List, ap, ap₂, ◌∙◌, arith}
use Rattle.law_sig.specs.Lists.{total}
use Rattle.law_sig.specs.Tests.{first_of}
use Rattle.law_sig.specs.Counts.{count_at, stopped}
use Rattle.law_sig.specs.declared.tree.SortId.{SortId}
use Rattle.law_sig.proofs.TermCounts.{first_sum_more}
use Rattle.law_sig.proofs.counts.with_first_at.Goals as goal

abbrev parts_of : List (List ℕ) → SortId → List ℕ → ℕ → ℕ → ℕ
parts_of rows sort rest weight first = count_at rows first sort * slice_index_or rest (weight - first) 0

pub loop-first-preserved : goal.loop-first-preserved
loop-first-preserved c = first_sum_more (2 ^ 128 - 1) c.loop-first.first c.loop-first.sum c.saturating_mul.result c.saturating_add-sum.result
    (parts_of c.args.rows.now c.args.sort c.args.rest.now c.args.weight) c.loop-first.invariant
    (c.saturating_mul.ensures ∙ ap₂ (λ a b. min (a * b) (2 ^ 128 - 1)) c.count_in-here.ensures c.number_at.ensures) c.saturating_add-sum.ensures

pub returns : goal.returns
returns c =
    let all : c.loop-first.first ≡ suc c.args.weight = omega arith in
    c.loop-first.invariant ∙ ap (λ n. stopped (total (first_of n (parts_of c.args.rows.now c.args.sort c.args.rest.now c.args.weight)))) all
