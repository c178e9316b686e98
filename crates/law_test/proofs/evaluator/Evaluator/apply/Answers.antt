use Rattle.std.proofs.Common.{subst}
use Rattle.law_test.specs.Memo.{Gives}
use Rattle.law_testing.specs.Evaluators.{Values}
use Rattle.law_test.proofs.Evaluating.{known_gives}
use Rattle.law_test.proofs.evaluator.Evaluator.apply.Goals as goal

pub returns-in-Some-get-clause-gives : goal.returns-in-Some-get-clause-gives
returns-in-Some-get-clause-gives c =
    subst (λ (v : Values). Gives v.parts v.bank c.args.sym c.args.ids.now c.in-Some-get.value) c.self.view_is
    (known_gives c.self.inside.sig.now c.self.inside.bank c.in-Some.key c.args.sym c.args.ids.now c.in-Some-get.value c.in-Some.ensures.0 c.in-Some.ensures.1
    (c.in-Some-get.ensures c.self.inside.sig.now c.self.inside.bank c.self.invariant))
