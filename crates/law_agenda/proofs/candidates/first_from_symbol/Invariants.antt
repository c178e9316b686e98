use Rattle.std.proofs.Common.{◌≤◌, List}
use Rattle.law_sig.specs.declared.tree.Tree.{Tree}
use Rattle.law_sig.specs.Schemas.{IsConsidered}
use Rattle.law_agenda.specs.Candidates.{IsStock}
use Rattle.law_listing.specs.Stages.{NoneUpTo}
use Rattle.law_agenda.proofs.candidates.first_from_symbol.Given as goal

abbrev pub invariant-loop-number : goal.invariant-loop-number
invariant-loop-number l = (l.from ≤ l.number)
    × ((spreads : List Tree) → IsStock l.universe spreads l.shelf l.weight → NoneUpTo l.universe (IsConsidered l.universe spreads) l.weight l.from l.number)
