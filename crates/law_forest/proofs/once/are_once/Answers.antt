use Rattle.law_checking.proofs.Onces.{is_once, last_in}
use Rattle.law_forest.proofs.once.are_once.Goals as goal

pub returns-then-not-branch-2 : goal.returns-then-not-branch-2
returns-then-not-branch-2 c = (
  λ e. let h : ⊥ = cc in absurd h,
  λ once. let h = c.in_ok-all_in.ensures.1 (is_once c.args.given.now c.args.wanted.now once).0 in let k = c.if-not-branch-2.true in cc,
)

pub returns : goal.returns
returns c =
    last_in c.args.given.now c.args.wanted.now c.all_in-2.result (c.in_ok-are_distinct.ensures.0 c.if-not-branch.false) (c.in_ok-all_in.ensures.0 c.if-not-branch-2.false) c.all_in-2.ensures
