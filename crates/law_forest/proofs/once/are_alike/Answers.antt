use Rattle.std.proofs.Common.{refl, slice_index_or}
use Rattle.law_checking.proofs.Onces.{reread, not_alike, all_alike}
use Rattle.law_forest.proofs.once.are_alike.Goals as goal

pub returns-then-not-is_same : goal.returns-then-not-is_same
returns-then-not-is_same c = (
  λ e. let h : ⊥ = cc in absurd h,
  λ all. absurd (not_alike c.args.values.now c.in-Some.rest.now c.in-Some.first.now (slice_index_or c.in-Some.rest.now c.loop-at.at (record { 0 = 0 })) c.loop-at.at c.in-Some.ensures.cases.0
      c.loop-at-test.true (reread c.in-Some.rest.now c.loop-at.at (record { 0 = 0 }) c.loop-at-test.true)
      (λ e. let h = c.is_same.ensures.1 e in let k = c.if-not-is_same.true in cc) all),
)

pub returns : goal.returns
returns c = (
  λ e. all_alike c.args.values.now c.in-Some.rest.now c.in-Some.first.now c.loop-at.at c.in-Some.ensures.cases.0 c.loop-at-test.false c.loop-at.invariant,
  λ all. refl,
)
