use Rattle.law_checking.proofs.AnswerFacts.{end_early, end_other, end_holds}
use Rattle.law_check.specs.Seeing.{sight}
use Rattle.law_check.proofs.entries.at_end.Goals as goal

pub returns-then-awaits_term : goal.returns-then-awaits_term
returns-then-awaits_term c = end_early c.args.tester.now.sig.now (sight c.args.seen.now) c.args.number c.awaits_term.result c.awaits_term.ensures c.if-awaits_term.true

pub returns-then-awaits_schema : goal.returns-then-awaits_schema
returns-then-awaits_schema c = end_other c.args.tester.now.sig.now (sight c.args.seen.now) c.args.number c.awaits_term.result c.awaits_schema.result c.awaits_term.ensures c.if-awaits_term.false c.awaits_schema.ensures c.if-awaits_schema.true

pub returns : goal.returns
returns c = end_holds c.args.tester.now.sig.now (sight c.args.seen.now) c.args.number c.awaits_term.result c.awaits_schema.result c.awaits_term.ensures c.if-awaits_term.false c.awaits_schema.ensures c.if-awaits_schema.false
