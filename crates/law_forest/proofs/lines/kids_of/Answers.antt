use Rattle.std.proofs.Common.{◌-◌, refl, rules}
use Rattle.law_checking.proofs.Taking.{kid_next}
use Rattle.law_forest.proofs.lines.kids_of.Goals as goal

pub loop-owed-preserved : goal.loop-owed-preserved
loop-owed-preserved c =
    kid_next c.args.part c.loop-owed.owed (c.loop-owed.owed - 1) c.loop-owed.left.now c.in_ok-numbers.rest.now c.loop-owed.kids c.push.new.self _ c.in_ok-numbers.numbers
    c.loop-owed-test.true refl (search rules) c.in_ok-numbers.ensures.parts c.in_ok-numbers.ensures.behind c.in_ok-push.ensures.ok c.loop-owed.invariant
