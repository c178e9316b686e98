use Rattle.law_term.proofs.change.leave.Goals as goal

pub returns-clause-left : goal.returns-clause-left
returns-clause-left c = record {
  made = c.in_ok-made.made;
  noted = c.in-Ok.ensures.entries;
  finds = c.in-Ok.ensures.updates.0;
  held = c.in_ok-made.ensures.held;
  is = c.in_ok-made.ensures.tree;
}
