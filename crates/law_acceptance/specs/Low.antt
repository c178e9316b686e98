-- Terms whose variables have low indices.
use Rattle.std.specs.Prelude.{ℕ, ◌+◌, ◌<◌, ◌^◌}
use Rattle.law_sig.specs.Lists.{In}
use Rattle.law_sig.specs.Trees.{holes}
use Rattle.law_sig.specs.declared.tree.SortId.{SortId}
use Rattle.law_sig.specs.declared.tree.Tree.{Tree}

-- 3 can be added to each index
abbrev pub IsLow : Tree → Type 0
IsLow t = (sort : SortId) (index : ℕ) → In index (holes sort t) → index + 3 < 2 ^ 32
