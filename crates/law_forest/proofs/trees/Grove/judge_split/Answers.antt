use Rattle.std.proofs.Common.{IfOk, subst}
use Rattle.law_draws.specs.Draws.{pools_by}
use Rattle.law_valid.specs.Judged.{CutsTell}
use Rattle.law_checking.specs.Parts.{IsYes}
use Rattle.law_checking.proofs.Treeing.{as_upper, as_lower}
use Rattle.law_forest.proofs.trees.Grove.judge_split.Goals as goal

pub returns-then-is_upper-clause-answer : goal.returns-then-is_upper-clause-answer
returns-then-is_upper-clause-answer c =
    subst (λ js. IfOk c.judge.result (CutsTell c.args.self.now.tester.sig.now (pools_by c.args.self.now.tester.sig.now) c.args.entry js IsYes))
    (as_upper c.args.self.now.spreads.now c.args.self.now.lives.now c.args.test c.args.count c.args.rest.now c.as_slice.result.now c.in_ok-kids.kids c.is_upper.result c.is_upper.ensures c.if-is_upper.true
    c.as_slice.ensures c.in_ok-kids.ensures) c.judge.ensures.answer

pub returns-clause-answer : goal.returns-clause-answer
returns-clause-answer c =
    subst (λ js. IfOk c.judge-2.result (CutsTell c.args.self.now.tester.sig.now (pools_by c.args.self.now.tester.sig.now) c.args.entry js IsYes))
    (as_lower c.args.self.now.spreads.now c.args.self.now.lives.now c.args.test c.args.count c.args.rest.now c.as_slice-2.result.now c.in_ok-kids-2.kids c.is_upper.result c.is_upper.ensures c.if-is_upper.false
    c.as_slice-2.ensures c.in_ok-kids-2.ensures) c.judge-2.ensures.answer
