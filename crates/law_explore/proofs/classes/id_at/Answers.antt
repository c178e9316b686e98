use Rattle.std.proofs.Common.{Err, ap, arith}
use Rattle.law_testing.proofs.EvaluatorFacts.{extends_not}
use Rattle.law_explore.proofs.VectorFacts.{own_id, lacks_value}
use Rattle.law_explore.proofs.classes.id_at.Goals as goal

pub bounds-ids-own : goal.bounds-ids-own
bounds-ids-own c = let long = c.requires.ids.one_each in let less = c.if-own-test.true in omega arith

pub returns-then-own-test-clause-id : goal.returns-then-own-test-clause-id
returns-then-own-test-clause-id c = own_id c.args.tester.now.sig.now c.args.evaluator.now.bank c.args.term.now c.args.test c.args.own c.args.ids.now c.requires.ids c.if-own-test.true c.requires.own

pub returns-then-own-test-clause-extends : goal.returns-then-own-test-clause-extends
returns-then-own-test-clause-extends c = extends_not c.args.evaluator.now

pub returns-in-Err-Over-clause-lacks : goal.returns-in-Err-Over-clause-lacks
returns-in-Err-Over-clause-lacks c =
    lacks_value c.args.tester.now.sig.now c.args.evaluator.now.bank c.args.test c.args.term.now c.args.ids.now (c.in-Err-Over.ensures.over (ap Err c.in-Err-Over.field-0-is)) c.requires.ids
    c.requires.test c.over.result c.over.ensures
