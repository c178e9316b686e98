-- Sizes of the bodies of functions, counted as those of terms are.
use Rattle.std.specs.Prelude.{ℕ, ◌+◌}
use Rattle.law_sig.specs.Lists.{total}
use Rattle.law_sig.specs.Trees.{greatest}
use Rattle.law_sig.specs.declared.tree.Body.{Body}
use Rattle.law_sig.specs.declared.tree.Body.TheOpen.{Body-F}
use Rattle.law_sig.specs.declared.tree.Body.TheOpen as o
use Rattle.law_sig.specs.declared.tree.Body.TheFolds.{fold-Body}

-- how many nodes a body has
abbrev pub body_nodes_step : Body-F ℕ → ℕ
body_nodes_step (o.Field number) = 1
body_nodes_step (o.Param number) = 1
body_nodes_step (o.Make head counts) = 1 + total counts
body_nodes_step (o.Call head counts) = 1 + total counts

abbrev pub body_nodes : Body → ℕ
body_nodes = fold-Body ℕ body_nodes_step

-- an atom has depth 1, any other body 1 more than its deepest argument
abbrev pub body_depth_step : Body-F ℕ → ℕ
body_depth_step (o.Field number) = 1
body_depth_step (o.Param number) = 1
body_depth_step (o.Make head depths) = 1 + greatest depths
body_depth_step (o.Call head depths) = 1 + greatest depths

abbrev pub body_depth : Body → ℕ
body_depth = fold-Body ℕ body_depth_step
