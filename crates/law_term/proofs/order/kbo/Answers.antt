use Rattle.law_term.proofs.Comparing.{greater_less, greater_roots, greater_lacks, greater_on, greater_end}
use Rattle.law_term.proofs.order.kbo.Goals as goal

pub returns-in-Less : goal.returns-in-Less
returns-in-Less c = greater_less c.args.a.now c.args.b.now c.loop-below.both.left.now c.loop-below.both.right.now c.loop-below.invariant c.kbo_roots.result c.kbo_roots.ensures c.in-Less.is

pub returns-in-Greater : goal.returns-in-Greater
returns-in-Greater c = greater_roots c.args.a.now c.args.b.now c.loop-below.both.left.now c.loop-below.both.right.now c.loop-below.invariant c.kbo_roots.result c.kbo_roots.ensures c.has_vars_of.result c.has_vars_of.ensures c.in-Greater.is

pub returns-then-not-has_vars_of : goal.returns-then-not-has_vars_of
returns-then-not-has_vars_of c = greater_lacks c.args.a.now c.args.b.now c.loop-below.both.left.now c.loop-below.both.right.now c.loop-below.invariant c.kbo_roots.result c.kbo_roots.ensures c.has_vars_of-in-loop-below.result c.has_vars_of-in-loop-below.ensures c.if-not-has_vars_of.true

pub returns-in_default : goal.returns-in_default
returns-in_default c = greater_end c.args.a.now c.args.b.now c.loop-below.both.left.now c.loop-below.both.right.now c.loop-below.invariant c.kbo_roots.result c.kbo_roots.ensures c.has_vars_of-in-loop-below.result c.has_vars_of-in-loop-below.ensures c.in-Equal.is c.if-not-has_vars_of.false c.first_below.result c.first_below.ensures.first c.in_default.is

pub loop-below-preserved : goal.loop-below-preserved
loop-below-preserved c = greater_on c.args.a.now c.args.b.now c.loop-below.both.left.now c.loop-below.both.right.now c.loop-below.invariant c.kbo_roots.result c.kbo_roots.ensures c.has_vars_of-in-loop-below.result c.has_vars_of-in-loop-below.ensures c.in-Equal.is c.if-not-has_vars_of.false c.first_below.result c.first_below.ensures.first c.in-Some.below c.in-Some.is
