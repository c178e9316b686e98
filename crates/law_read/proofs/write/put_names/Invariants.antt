use Rattle.std.proofs.Common.{◌≡◌, ◌++◌, take}
use Rattle.law_lines.specs.Spelling.{spaced}
use Rattle.law_read.proofs.write.put_names.Given as goal

abbrev pub invariant-loop-name : goal.invariant-loop-name
invariant-loop-name l = l.out ≡ l.initial.out ++ spaced (take l.name-index l.names)
