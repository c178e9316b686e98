use Rattle.std.proofs.Common.{◌≡◌, ◌++◌, take}
use Rattle.law_lines.specs.Spelling.{sig_spelling}
use Rattle.law_read.proofs.write.put_lines.Given as goal

abbrev pub invariant-loop-line : goal.invariant-loop-line
invariant-loop-line l = l.out ≡ l.initial.out ++ sig_spelling (take l.line-index l.lines)
