use Rattle.std.proofs.Common.{IfOk, sym, subst}
use Rattle.law_draws.specs.Draws.{pools_by}
use Rattle.law_valid.specs.Judged.{CutsTell}
use Rattle.law_checking.specs.Lines.{judging_at}
use Rattle.law_checking.specs.Parts.{IsYes}
use Rattle.law_forest.proofs.trees.Grove.judge_line.Goals as goal

pub returns-in-Split-clause-answer : goal.returns-in-Split-clause-answer
returns-in-Split-clause-answer c =
    subst (λ l. IfOk c.judge_split.result (CutsTell c.args.self.now.tester.sig.now (pools_by c.args.self.now.tester.sig.now) c.args.entry (judging_at c.args.self.now.spreads.now c.args.self.now.lives.now l c.args.rest.now) IsYes))
    (sym c.in-Split.is) c.judge_split.ensures.answer
