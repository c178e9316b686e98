use Rattle.std.proofs.Common.{arith}
use Rattle.law_explore.proofs.EquationFacts.{same_place, other_place}
use Rattle.law_explore.proofs.laws.equations.Goals as goal

pub loop-at-preserved-then-first-at : goal.loop-at-preserved-then-first-at
loop-at-preserved-then-first-at c =
    same_place c.args.terms.now c.args.firsts.now c.loop-at.at c.index-terms-at.result c.loop-at-test.true c.requires.long c.index-terms-at.is
    c.loop-at.found c.loop-at.invariant c.if-first-at.true

pub loop-at-preserved : goal.loop-at-preserved
loop-at-preserved c =
    let less = c.loop-at-test.true in
    let long = c.requires.long in
    other_place c.args.terms.now c.args.firsts.now c.loop-at.at c.index-terms-at.result c.loop-at-test.true c.requires.long c.index-terms-at.is
    c.loop-at.found c.push.new.self c.in_ok-copy.field-0 c.in_ok-copy-2.field-0 c.index-terms-first.result c.loop-at.invariant c.if-first-at.false
    (c.requires.within c.loop-at.at (omega arith)) c.in_ok-copy.ensures c.in_ok-copy-2.ensures c.index-terms-first.is c.in_ok-push.ensures.ok
