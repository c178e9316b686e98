use Rattle.law_term.specs.Walks.{meaning, IsWalking, steps}
use Rattle.law_term.proofs.change.changed.Given as goal

abbrev pub invariant-loop-visit : goal.invariant-loop-visit
invariant-loop-visit l = IsWalking l.initial.bank l.bank (meaning l.change) l.term l.done.entries l.visits.items

abbrev pub decreases-loop-visit : goal.decreases-loop-visit
decreases-loop-visit l = steps l.visits.items
