use Rattle.law_term.proofs.Counting.{of_passed, of_none, of_new, of_given}
use Rattle.law_term.proofs.vars.first_of.Goals as goal

pub returns-then-not-is_behind : goal.returns-then-not-is_behind
returns-then-not-is_behind c = of_passed c.args.after c.args.given c.args.sort c.args.index c.is_behind.result c.is_behind.ensures c.if-not-is_behind.true

pub returns-in_default : goal.returns-in_default
returns-in_default c = of_none c.args.after c.args.given c.args.sort c.args.index c.is_behind.result c.is_behind.ensures c.if-not-is_behind.false c.in_default.is

pub returns-then-comes_before : goal.returns-then-comes_before
returns-then-comes_before c = of_new c.args.after c.args.given c.args.sort c.args.index c.is_behind.result c.is_behind.ensures c.if-not-is_behind.false (c.in-Some.own, c.in-Some.number) c.in-Some.is
    c.comes_before.result c.comes_before.ensures c.if-comes_before.true

pub returns : goal.returns
returns c = of_given c.args.after c.args.given c.args.sort c.args.index c.is_behind.result c.is_behind.ensures c.if-not-is_behind.false (c.in-Some.own, c.in-Some.number) c.in-Some.is
    c.comes_before.result c.comes_before.ensures c.if-comes_before.false
