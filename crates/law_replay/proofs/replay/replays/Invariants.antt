use Rattle.std.proofs.Common.{◌↔◌, drop}
use Rattle.law_sig.specs.declared.tree.Tree.{Tree}
use Rattle.law_sig.specs.Chains.{Replays}
use Rattle.law_replay.specs.Terms.{meaning}
use Rattle.law_replay.proofs.replay.replays.Given as goal

abbrev pub invariant-loop-next : goal.invariant-loop-next
invariant-loop-next l = (u : Tree) → Replays l.sig l.known (drop l.next-index l.steps) (meaning l.current) u ↔ Replays l.sig l.known l.steps l.from u
