use Rattle.std.proofs.Common.{◌↔◌, IsTrue, ◌∙◌, sym, subst}
use Rattle.law_sig.specs.Lists.{In}
use Rattle.law_checking.specs.Rules.{TellsMoved}
use Rattle.law_checking.proofs.AnswerFacts.{found_in, moved_late, moved_other, moved_refused, moved_agrees, moved_is}
use Rattle.law_check.specs.Seeing.{sight}
use Rattle.law_check.proofs.entries.of_moved.Goals as goal

pub returns-then-not-awaits_term-clause-answer : goal.returns-then-not-awaits_term-clause-answer
returns-then-not-awaits_term-clause-answer c = moved_late c.args.tester.now.sig.now (sight c.args.seen.now) c.args.entry c.args.q.now c.args.steps.now c.awaits_term.result c.awaits_term.ensures c.if-not-awaits_term.true

pub returns-then-not-is_next_term-clause-answer : goal.returns-then-not-is_next_term-clause-answer
returns-then-not-is_next_term-clause-answer c = moved_other c.args.tester.now.sig.now (sight c.args.seen.now) c.args.entry c.args.q.now c.args.steps.now c.awaits_term.result c.is_next_term.result c.awaits_term.ensures c.if-not-awaits_term.false
    (λ p at l. c.is_next_term.ensures p at (c.as_slice-lives.ensures ∙ l)) c.if-not-is_next_term.true

pub returns-then-not-holds-clause-answer : goal.returns-then-not-holds-clause-answer
returns-then-not-holds-clause-answer c = moved_refused c.args.tester.now.sig.now (sight c.args.seen.now) c.args.entry c.args.q.now c.args.steps.now c.awaits_term.result c.is_next_term.result c.is_some-earlier.result c.in_ok-holds.holds
    c.awaits_term.ensures c.if-not-awaits_term.false (λ p at l. c.is_next_term.ensures p at (c.as_slice-lives.ensures ∙ l)) c.if-not-is_next_term.false
    (subst (λ b. IsTrue b ↔ In c.args.q.now.right c.args.seen.now.lives) (sym c.is_some-earlier.ensures)
    (found_in c.args.seen.now.lives c.args.q.now.right c.in_ok-found.found c.in_ok-found.ensures))
    (subst (λ l. TellsMoved c.args.tester.now.sig.now l c.is_some-earlier.result c.args.q.now c.args.steps.now c.in_ok-holds.holds) c.as_slice-known.ensures c.in_ok-holds.ensures) c.if-not-holds.true

pub agree-requires-clause-left : goal.agree-requires-clause-left
agree-requires-clause-left c = (moved_is c.args.tester.now.sig.now (sight c.args.seen.now) c.args.entry c.args.q.now c.args.steps.now c.is_next_term.result c.is_some-earlier.result c.in_ok-holds.holds c.requires.place
    (λ p at l. c.is_next_term.ensures p at (c.as_slice-lives.ensures ∙ l)) c.if-not-is_next_term.false
    (subst (λ b. IsTrue b ↔ In c.args.q.now.right c.args.seen.now.lives) (sym c.is_some-earlier.ensures)
    (found_in c.args.seen.now.lives c.args.q.now.right c.in_ok-found.found c.in_ok-found.ensures))
    (subst (λ l. TellsMoved c.args.tester.now.sig.now l c.is_some-earlier.result c.args.q.now c.args.steps.now c.in_ok-holds.holds) c.as_slice-known.ensures c.in_ok-holds.ensures) c.if-not-holds.false).0

pub agree-requires-clause-right : goal.agree-requires-clause-right
agree-requires-clause-right c = (moved_is c.args.tester.now.sig.now (sight c.args.seen.now) c.args.entry c.args.q.now c.args.steps.now c.is_next_term.result c.is_some-earlier.result c.in_ok-holds.holds c.requires.place
    (λ p at l. c.is_next_term.ensures p at (c.as_slice-lives.ensures ∙ l)) c.if-not-is_next_term.false
    (subst (λ b. IsTrue b ↔ In c.args.q.now.right c.args.seen.now.lives) (sym c.is_some-earlier.ensures)
    (found_in c.args.seen.now.lives c.args.q.now.right c.in_ok-found.found c.in_ok-found.ensures))
    (subst (λ l. TellsMoved c.args.tester.now.sig.now l c.is_some-earlier.result c.args.q.now c.args.steps.now c.in_ok-holds.holds) c.as_slice-known.ensures c.in_ok-holds.ensures) c.if-not-holds.false).1

pub returns-clause-answer : goal.returns-clause-answer
returns-clause-answer c = moved_agrees c.args.tester.now.sig.now (sight c.args.seen.now) c.args.entry c.args.q.now c.args.steps.now c.awaits_term.result c.is_next_term.result c.is_some-earlier.result c.in_ok-holds.holds c.in_ok-answer.answer
    c.awaits_term.ensures c.if-not-awaits_term.false (λ p at l. c.is_next_term.ensures p at (c.as_slice-lives.ensures ∙ l)) c.if-not-is_next_term.false
    (subst (λ b. IsTrue b ↔ In c.args.q.now.right c.args.seen.now.lives) (sym c.is_some-earlier.ensures)
    (found_in c.args.seen.now.lives c.args.q.now.right c.in_ok-found.found c.in_ok-found.ensures))
    (subst (λ l. TellsMoved c.args.tester.now.sig.now l c.is_some-earlier.result c.args.q.now c.args.steps.now c.in_ok-holds.holds) c.as_slice-known.ensures c.in_ok-holds.ensures) c.if-not-holds.false c.in_ok-answer.ensures.answer
