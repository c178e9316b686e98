use Rattle.std.proofs.Common.{◌≡◌, ◌++◌, take}
use Rattle.std.specs.List.{flat_map}
use Rattle.law_lines.specs.Spelling.{text_of}
use Rattle.law_cert_text.specs.Spelling.{tree_lines}
use Rattle.law_cert.proofs.write.put_trees.Given as goal

abbrev pub invariant-loop-tree : goal.invariant-loop-tree
invariant-loop-tree l = l.out ≡ l.initial.out ++ text_of (flat_map tree_lines (take l.tree-index l.trees))
