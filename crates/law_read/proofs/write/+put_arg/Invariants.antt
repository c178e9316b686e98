use Rattle.std.proofs.Common.{◌≡◌, ◌++◌, take, map}
use Rattle.law_lines.specs.Spelling.{arg_spelling, spaced}
use Rattle.law_read.proofs.write.+put_arg.Given as goal

abbrev pub invariant-loop-arg : goal.invariant-loop-arg
invariant-loop-arg l = l.out ≡ l.initial.out ++ spaced (map arg_spelling (take l.arg-index l.arg-items))
