use Rattle.std.proofs.Common.{sym, subst}
use Rattle.law_check.specs.Seeing.{IsAnswerTo}
use Rattle.law_check.proofs.entries.of_entry.Goals as goal

pub returns-in-Spread-clause-answer : goal.returns-in-Spread-clause-answer
returns-in-Spread-clause-answer c = subst (λ x. IsAnswerTo c.args.tester.now.sig.now c.args.seen.now c.args.number x c.of_spread.result) (sym c.in-Spread.is) c.of_spread.ensures

pub returns-in-Live-clause-answer : goal.returns-in-Live-clause-answer
returns-in-Live-clause-answer c = subst (λ x. IsAnswerTo c.args.tester.now.sig.now c.args.seen.now c.args.number x c.of_live.result) (sym c.in-Live.is) c.of_live.ensures
