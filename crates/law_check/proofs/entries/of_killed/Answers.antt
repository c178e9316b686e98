use Rattle.std.proofs.Common.{subst}
use Rattle.law_checking.specs.Rules.{TellsKilled}
use Rattle.law_checking.proofs.AnswerFacts.{killed_early, killed_other, killed_refused, killed_agrees, killed_is}
use Rattle.law_check.specs.Seeing.{sight}
use Rattle.law_check.proofs.entries.of_killed.Goals as goal

pub returns-then-awaits_term-clause-answer : goal.returns-then-awaits_term-clause-answer
returns-then-awaits_term-clause-answer c = killed_early c.args.tester.now.sig.now (sight c.args.seen.now) c.args.entry c.args.q.now c.args.steps.now c.awaits_term.result c.awaits_term.ensures c.if-awaits_term.true

pub returns-then-not-is_next_schema-clause-answer : goal.returns-then-not-is_next_schema-clause-answer
returns-then-not-is_next_schema-clause-answer c = killed_other c.args.tester.now.sig.now (sight c.args.seen.now) c.args.entry c.args.q.now c.args.steps.now c.in_ok-killed.killed c.awaits_term.result c.is_next_schema.result c.in_ok-killed.ensures
    c.awaits_term.ensures c.if-awaits_term.false c.is_next_schema.ensures c.if-not-is_next_schema.true

pub returns-then-not-holds-clause-answer : goal.returns-then-not-holds-clause-answer
returns-then-not-holds-clause-answer c = killed_refused c.args.tester.now.sig.now (sight c.args.seen.now) c.args.entry c.args.q.now c.args.steps.now c.in_ok-killed.killed c.awaits_term.result c.is_next_schema.result c.in_ok-holds.holds
    c.in_ok-killed.ensures c.awaits_term.ensures c.if-awaits_term.false c.is_next_schema.ensures c.if-not-is_next_schema.false
    (subst (λ p. TellsKilled p c.args.seen.now.known c.args.q.now c.args.steps.now c.in_ok-holds.holds) c.requires.universe
    (subst (λ l. TellsKilled c.args.universe.now l c.args.q.now c.args.steps.now c.in_ok-holds.holds) c.as_slice-known.ensures c.in_ok-holds.ensures)) c.if-not-holds.true

pub agree-requires-clause-left : goal.agree-requires-clause-left
agree-requires-clause-left c = (killed_is c.args.tester.now.sig.now (sight c.args.seen.now) c.args.entry c.args.q.now c.args.steps.now c.in_ok-holds.holds c.requires.place
    (subst (λ p. TellsKilled p c.args.seen.now.known c.args.q.now c.args.steps.now c.in_ok-holds.holds) c.requires.universe
    (subst (λ l. TellsKilled c.args.universe.now l c.args.q.now c.args.steps.now c.in_ok-holds.holds) c.as_slice-known.ensures c.in_ok-holds.ensures)) c.if-not-holds.false).0

pub agree-requires-clause-right : goal.agree-requires-clause-right
agree-requires-clause-right c = (killed_is c.args.tester.now.sig.now (sight c.args.seen.now) c.args.entry c.args.q.now c.args.steps.now c.in_ok-holds.holds c.requires.place
    (subst (λ p. TellsKilled p c.args.seen.now.known c.args.q.now c.args.steps.now c.in_ok-holds.holds) c.requires.universe
    (subst (λ l. TellsKilled c.args.universe.now l c.args.q.now c.args.steps.now c.in_ok-holds.holds) c.as_slice-known.ensures c.in_ok-holds.ensures)) c.if-not-holds.false).1

pub returns-clause-answer : goal.returns-clause-answer
returns-clause-answer c = killed_agrees c.args.tester.now.sig.now (sight c.args.seen.now) c.args.entry c.args.q.now c.args.steps.now c.in_ok-killed.killed c.awaits_term.result c.is_next_schema.result c.in_ok-holds.holds
    c.in_ok-answer.answer c.in_ok-killed.ensures c.awaits_term.ensures c.if-awaits_term.false c.is_next_schema.ensures c.if-not-is_next_schema.false
    (subst (λ p. TellsKilled p c.args.seen.now.known c.args.q.now c.args.steps.now c.in_ok-holds.holds) c.requires.universe
    (subst (λ l. TellsKilled c.args.universe.now l c.args.q.now c.args.steps.now c.in_ok-holds.holds) c.as_slice-known.ensures c.in_ok-holds.ensures)) c.if-not-holds.false c.in_ok-answer.ensures.answer
