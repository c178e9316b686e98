use Rattle.std.proofs.Common.{◌∙◌}
use Rattle.law_checking.proofs.AnswerFacts.{live_late, live_other, live_holds}
use Rattle.law_check.specs.Seeing.{sight}
use Rattle.law_check.proofs.entries.of_live.Goals as goal

pub returns-then-not-awaits_term : goal.returns-then-not-awaits_term
returns-then-not-awaits_term c = live_late c.args.tester.now.sig.now (sight c.args.seen.now) c.args.entry c.args.term.now c.awaits_term.result c.awaits_term.ensures c.if-not-awaits_term.true

pub returns-then-not-is_next_term : goal.returns-then-not-is_next_term
returns-then-not-is_next_term c = live_other c.args.tester.now.sig.now (sight c.args.seen.now) c.args.entry c.args.term.now c.awaits_term.result c.is_next_term.result c.awaits_term.ensures c.if-not-awaits_term.false
    (λ p at l. c.is_next_term.ensures p at (c.as_slice-lives.ensures ∙ l)) c.if-not-is_next_term.true

pub returns : goal.returns
returns c = live_holds c.args.tester.now.sig.now (sight c.args.seen.now) c.args.entry c.args.term.now c.awaits_term.result c.is_next_term.result c.awaits_term.ensures c.if-not-awaits_term.false
    (λ p at l. c.is_next_term.ensures p at (c.as_slice-lives.ensures ∙ l)) c.if-not-is_next_term.false
