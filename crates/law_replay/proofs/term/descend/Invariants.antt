use Rattle.std.proofs.Common.{drop}
use Rattle.law_replay.specs.Terms.{meaning, LeadsTo}
use Rattle.law_replay.proofs.term.descend.Given as goal

abbrev pub invariant-loop-number : goal.invariant-loop-number
invariant-loop-number l = LeadsTo (meaning l.term) l.place l.frames.items (drop l.number-index l.place) (meaning l.here)
