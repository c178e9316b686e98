use Rattle.std.proofs.Common.{◌≡◌, ◌<◌, length}
use Rattle.law_sig.specs.Trees.{holes}
use Rattle.law_sig.specs.Tests.{first_of}
use Rattle.law_sig.specs.declared.tree.SortId.{SortId}
use Rattle.law_replay.proofs.terms.is_general.Given as goal

abbrev pub invariant-loop-at : goal.invariant-loop-at
invariant-loop-at l = (sort : SortId) → sort.0 < l.at → holes sort l.term ≡ first_of (length (holes sort l.term)) (λ i. i)
