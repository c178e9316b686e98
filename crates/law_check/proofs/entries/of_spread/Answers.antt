use Rattle.law_checking.proofs.AnswerFacts.{spread_early, spread_other, spread_holds}
use Rattle.law_check.specs.Seeing.{sight}
use Rattle.law_check.proofs.entries.of_spread.Goals as goal

pub returns-then-awaits_term : goal.returns-then-awaits_term
returns-then-awaits_term c = spread_early c.args.tester.now.sig.now (sight c.args.seen.now) c.args.entry c.args.spread.now c.awaits_term.result c.awaits_term.ensures c.if-awaits_term.true

pub returns-then-not-is_next_schema : goal.returns-then-not-is_next_schema
returns-then-not-is_next_schema c = spread_other c.args.tester.now.sig.now (sight c.args.seen.now) c.args.entry c.args.spread.now c.awaits_term.result c.is_next_schema.result c.awaits_term.ensures c.if-awaits_term.false
    c.is_next_schema.ensures c.if-not-is_next_schema.true

pub returns : goal.returns
returns c = spread_holds c.args.tester.now.sig.now (sight c.args.seen.now) c.args.entry c.args.spread.now c.awaits_term.result c.is_next_schema.result c.awaits_term.ensures c.if-awaits_term.false
    c.is_next_schema.ensures c.if-not-is_next_schema.false
