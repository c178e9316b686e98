use Rattle.std.proofs.Common.{◌+◌, ◌-◌, ◌^◌, min, length, refl, ap, ◌∙◌, rules}
use Rattle.law_checking.proofs.Taking.{tree_next}
use Rattle.law_forest.proofs.lines.first_tree.Goals as goal

pub loop-owed-preserved : goal.loop-owed-preserved
loop-owed-preserved c =
    let next = tree_next c.args.part c.loop-owed.owed (c.loop-owed.owed - 1) c.at_most-owed.result c.in-Some.line.now c.loop-owed.left.now c.in-Some.rest.now c.loop-owed.found c.push_part.new.found
    _ _ c.loop-owed-test.true refl c.in-Some.ensures.cases.0 (search rules)
    (c.at_most-owed.ensures ∙ ap (λ k. min k (length c.in-Some.rest.now)) (c.saturating_add.ensures ∙ ap (λ k. min (c.loop-owed.owed - 1 + k) (2 ^ 64 - 1)) c.arity.ensures)) c.in_ok-push_part.ensures c.loop-owed.invariant.parts c.loop-owed.invariant.behind in
    record { parts = next.0; behind = next.1 }
