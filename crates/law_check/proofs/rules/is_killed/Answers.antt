use Rattle.law_checking.proofs.Falling.{told_killed, not_killed}
use Rattle.law_check.proofs.rules.is_killed.Goals as goal

pub returns-then-not-below : goal.returns-then-not-below
returns-then-not-below c = not_killed c.args.universe.now _ _ _ _ _ c.sig-sig.ensures c.in_ok-below.ensures c.if-not-below.true

pub returns : goal.returns
returns c = told_killed c.args.universe.now _ _ _ _ _ c.sig-sig.ensures (c.has_sides.ensures.0 c.if-not-has_sides.false) (c.is_general.ensures.0 c.if-not-is_general.false)
    (c.in_ok-below.ensures.0 c.if-not-below.false) c.in_ok-leads.ensures
