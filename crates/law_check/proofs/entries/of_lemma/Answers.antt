use Rattle.std.proofs.Common.{subst}
use Rattle.law_checking.specs.Rules.{TellsLemma}
use Rattle.law_checking.proofs.AnswerFacts.{lemma_misnumbered, lemma_refused, lemma_holds}
use Rattle.law_check.specs.Seeing.{sight}
use Rattle.law_check.proofs.entries.of_lemma.Goals as goal

pub returns-then-not-is_numbered : goal.returns-then-not-is_numbered
returns-then-not-is_numbered c = lemma_misnumbered c.args.tester.now.sig.now (sight c.args.seen.now) c.args.entry c.args.number c.args.q.now c.args.steps.now c.is_numbered.result c.is_numbered.ensures c.if-not-is_numbered.true

pub returns-then-not-holds : goal.returns-then-not-holds
returns-then-not-holds c = lemma_refused c.args.tester.now.sig.now (sight c.args.seen.now) c.args.entry c.args.number c.args.q.now c.args.steps.now c.in_ok-holds.holds
    (subst (λ l. TellsLemma c.args.tester.now.sig.now l c.args.q.now c.args.steps.now c.in_ok-holds.holds) c.as_slice-known.ensures c.in_ok-holds.ensures) c.if-not-holds.true

pub returns : goal.returns
returns c = lemma_holds c.args.tester.now.sig.now (sight c.args.seen.now) c.args.entry c.args.number c.args.q.now c.args.steps.now c.is_numbered.result c.in_ok-holds.holds c.is_numbered.ensures c.if-not-is_numbered.false
    (subst (λ l. TellsLemma c.args.tester.now.sig.now l c.args.q.now c.args.steps.now c.in_ok-holds.holds) c.as_slice-known.ensures c.in_ok-holds.ensures) c.if-not-holds.false
