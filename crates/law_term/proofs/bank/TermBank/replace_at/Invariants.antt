use Rattle.std.proofs.Common.{length}
use Rattle.law_bank.specs.Terms.{tree_of}
use Rattle.law_term.specs.Places.{IsRising}
use Rattle.law_term.proofs.bank.TermBank.replace_at.Given as goal

abbrev pub invariant-loop-node : goal.invariant-loop-node
invariant-loop-node l = IsRising l.initial.self l.self l.fn.term l.fn.at (tree_of l.fn.new) l.way.items l.here.term.now

abbrev pub decreases-loop-node : goal.decreases-loop-node
decreases-loop-node l = length l.way.items
