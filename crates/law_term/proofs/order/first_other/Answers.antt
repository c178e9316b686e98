use Rattle.law_term.proofs.Comparing.{other_spent}
use Rattle.law_term.proofs.order.first_other.Goals as goal

pub returns-then-at-rights : goal.returns-then-at-rights
returns-then-at-rights c = other_spent c.args.lefts.now c.args.rights.now c.loop-at.at c.if-at-rights.true c.loop-at.invariant
