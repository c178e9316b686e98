use Rattle.std.proofs.Common.{◌≡◌, ◌++◌, take, map}
use Rattle.law_lines.specs.Spelling.{text_of}
use Rattle.law_cert_text.specs.Spelling.{node_spelling}
use Rattle.law_cert.proofs.write.put_nodes.Given as goal

abbrev pub invariant-loop-node : goal.invariant-loop-node
invariant-loop-node l = l.out ≡ l.initial.out ++ text_of (map node_spelling (take l.node-index l.nodes))
