use Rattle.std.proofs.Common.{subst, sym}
use Rattle.law_checking.specs.Once.{AreTold}
use Rattle.law_checking.specs.Splitting.{AreKids}
use Rattle.law_checking.proofs.Telling.{split_fault, split_tells, split_fails}
use Rattle.law_forest.proofs.splits.Split.judge.Goals as goal

pub returns-in-Err-clause-answer : goal.returns-in-Err-clause-answer
returns-in-Err-clause-answer c =
    split_fault c.args.self.now.tester.sig.now c.args.self.now.rule c.args.self.now.entry c.args.self.now.terms.now c.args.self.now.test c.all_values.new.evaluator.bank c.args.kids.now c.in-Err.fault
    (subst (AreKids c.args.self.now.tester.sig.now c.all_values.new.evaluator.bank c.args.self.now.rule c.args.self.now.entry c.args.self.now.terms.now c.args.self.now.test c.args.kids.now)
    c.in-Err.is c.in_ok-found.ensures.kids)

pub returns-then-branch-clause-answer : goal.returns-then-branch-clause-answer
returns-then-branch-clause-answer c =
    split_tells c.args.self.now.tester.sig.now c.args.self.now.rule c.args.self.now.entry c.args.self.now.terms.now c.args.self.now.test c.all_values.new.evaluator.bank c.args.kids.now
    c.shared.ensures c.in-Ok.found
    (subst (AreKids c.args.self.now.tester.sig.now c.all_values.new.evaluator.bank c.args.self.now.rule c.args.self.now.entry c.args.self.now.terms.now c.args.self.now.test c.args.kids.now)
    c.in-Ok.is c.in_ok-found.ensures.kids)
    (subst AreTold c.as_slice.ensures (c.in_ok-are_told.ensures.0 c.if-branch.true))

pub returns-clause-answer : goal.returns-clause-answer
returns-clause-answer c =
    split_fails c.args.self.now.tester.sig.now c.args.self.now.rule c.args.self.now.entry c.args.self.now.terms.now c.args.self.now.test c.all_values.new.evaluator.bank c.args.kids.now
    c.shared.ensures c.in-Ok.found
    (subst (AreKids c.args.self.now.tester.sig.now c.all_values.new.evaluator.bank c.args.self.now.rule c.args.self.now.entry c.args.self.now.terms.now c.args.self.now.test c.args.kids.now)
    c.in-Ok.is c.in_ok-found.ensures.kids)
    (λ told. let h = c.in_ok-are_told.ensures.1 (subst AreTold (sym c.as_slice.ensures) told) in let k = c.if-branch.false in cc)
