use Rattle.std.proofs.Common.{◌≡◌, ◌++◌, take, map, decimal}
use Rattle.law_lines.specs.Spelling.{spaced}
use Rattle.law_cert.proofs.write.put_numerals.Given as goal

abbrev pub invariant-loop-number : goal.invariant-loop-number
invariant-loop-number l = l.out ≡ l.initial.out ++ spaced (map decimal (take l.number-index l.numbers))
