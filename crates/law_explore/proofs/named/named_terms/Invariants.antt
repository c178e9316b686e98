use Rattle.std.proofs.Common.{◌≡◌, take, map}
use Rattle.law_typing.specs.Naming.{named_term}
use Rattle.law_explore.proofs.named.named_terms.Given as goal

abbrev pub invariant-loop-tree : goal.invariant-loop-tree
invariant-loop-tree l = l.terms ≡ map (named_term l.sig) (take l.tree-index l.trees)
