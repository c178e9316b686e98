use Rattle.std.proofs.Common.{◌≡◌, ℕ, suc, ◌+◌, [], refl, ap, ◌∙◌, arith}
use Rattle.law_sig.specs.Tests.{first_of}
use Rattle.law_sig.specs.Counts.{lists_at}
use Rattle.law_sig.proofs.TermCounts.{row_more}
use Rattle.law_sig.proofs.counts.empty_lists.Goals as goal

abbrev empty_at : ℕ → ℕ
empty_at w = lists_at [] [] w

pub loop-preserved : goal.loop-preserved
loop-preserved c =
    let next : suc c.loop.counter + 1 ≡ suc (c.loop.counter + 1) = omega arith in
    row_more (suc c.loop.counter) empty_at c.loop.lists c.push-in-loop.new.self 0 c.loop.invariant refl c.in_ok-push-2.ensures.ok ∙ ap (λ n. first_of n empty_at) next
