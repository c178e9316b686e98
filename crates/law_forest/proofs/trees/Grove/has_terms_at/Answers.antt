use Rattle.indexmap.specs.IndexMap.{get}
use Rattle.law_draws.specs.Draws.{pools_by}
use Rattle.law_checking.specs.Planted.{same_number}
use Rattle.law_checking.proofs.Treeing.{terms_once, terms_are}
use Rattle.law_forest.proofs.trees.Grove.has_terms_at.Goals as goal

pub returns-then-not-branch : goal.returns-then-not-branch
returns-then-not-branch c = (
  λ e. let h : ⊥ = cc in absurd h,
  λ h. let k = c.in_ok-are_once.ensures.1 (terms_once c.args.self.now.tester.sig.now (pools_by c.args.self.now.tester.sig.now) c.args.self.now.spreads.now c.args.self.now.lives.now
      (get same_number c.args.self.now.groups.now) c.args.numbers.now c.args.rest.now c.as_slice.result.now c.in_ok-leaves.leaves c.as_slice-2.result.now c.in_ok-wanted.wanted
      c.requires.groups c.as_slice.ensures c.in_ok-leaves.ensures.parts c.as_slice-2.ensures c.in_ok-wanted.ensures h.0) in
      let l = c.if-not-branch.true in cc,
)

pub returns : goal.returns
returns c =
    terms_are c.args.self.now.tester.sig.now (pools_by c.args.self.now.tester.sig.now) c.args.self.now.spreads.now c.args.self.now.lives.now
    (get same_number c.args.self.now.groups.now) c.args.numbers.now c.args.rest.now c.as_slice.result.now c.in_ok-leaves.leaves c.as_slice-2.result.now c.in_ok-wanted.wanted
    c.requires.groups c.as_slice.ensures c.in_ok-leaves.ensures.parts c.as_slice-2.ensures c.in_ok-wanted.ensures
    c.as_slice-3.result.now c.in_ok-tests.tests c.as_slice-3.ensures c.in_ok-tests.ensures.parts (c.in_ok-are_once.ensures.0 c.if-not-branch.false) c.are_tests.result
    (c.are_tests.ensures c.requires.bank.0 c.requires.bank.1)
