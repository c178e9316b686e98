use Rattle.std.proofs.Common.{◌≡◌, take, map}
use Rattle.law_cert_text.specs.declared.cert.SortTree.{SortTree}
use Rattle.law_named.specs.Named.{sort_named}
use Rattle.law_check.proofs.entries.tree_sorts.Given as goal

abbrev pub invariant-loop-tree : goal.invariant-loop-tree
invariant-loop-tree l = l.sorts ≡ map (λ (t : SortTree). sort_named l.names t.sort) (take l.tree-index l.trees)
