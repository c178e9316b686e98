use Rattle.std.proofs.Common.{◌↔◌, IsTrue, subst}
use Rattle.law_valid.specs.Judged.{HasSides}
use Rattle.law_checking.proofs.AnswerFacts.{law_misnumbered, law_outside, law_agrees, law_is}
use Rattle.law_check.specs.Seeing.{sight}
use Rattle.law_check.proofs.entries.of_law.Goals as goal

pub returns-then-not-is_numbered-clause-answer : goal.returns-then-not-is_numbered-clause-answer
returns-then-not-is_numbered-clause-answer c = law_misnumbered c.args.tester.now.sig.now (sight c.args.seen.now) c.args.entry c.args.number c.args.q.now c.is_numbered.result c.is_numbered.ensures c.if-not-is_numbered.true

pub returns-then-not-has_sides-clause-answer : goal.returns-then-not-has_sides-clause-answer
returns-then-not-has_sides-clause-answer c = law_outside c.args.tester.now.sig.now (sight c.args.seen.now) c.args.entry c.args.number c.args.q.now c.has_sides.result
    (subst (λ p. IsTrue c.has_sides.result ↔ HasSides p c.args.q.now) c.requires.universe c.has_sides.ensures) c.if-not-has_sides.true

pub agree-requires-clause-left : goal.agree-requires-clause-left
agree-requires-clause-left c = (law_is c.args.tester.now.sig.now (sight c.args.seen.now) c.args.entry c.args.q.now c.has_sides.result
    (subst (λ p. IsTrue c.has_sides.result ↔ HasSides p c.args.q.now) c.requires.universe c.has_sides.ensures) c.if-not-has_sides.false).0

pub agree-requires-clause-right : goal.agree-requires-clause-right
agree-requires-clause-right c = (law_is c.args.tester.now.sig.now (sight c.args.seen.now) c.args.entry c.args.q.now c.has_sides.result
    (subst (λ p. IsTrue c.has_sides.result ↔ HasSides p c.args.q.now) c.requires.universe c.has_sides.ensures) c.if-not-has_sides.false).1

pub returns-clause-answer : goal.returns-clause-answer
returns-clause-answer c = law_agrees c.args.tester.now.sig.now (sight c.args.seen.now) c.args.entry c.args.number c.args.q.now c.is_numbered.result c.has_sides.result c.in_ok-answer.answer
    c.is_numbered.ensures c.if-not-is_numbered.false (subst (λ p. IsTrue c.has_sides.result ↔ HasSides p c.args.q.now) c.requires.universe c.has_sides.ensures)
    c.if-not-has_sides.false c.in_ok-answer.ensures.answer
