use Rattle.std.proofs.Common.{◌≡◌, ◌++◌, take, map}
use Rattle.law_lines.specs.Spelling.{arg_spelling, spaced}
use Rattle.law_cert.proofs.write.put_args.Given as goal

abbrev pub invariant-loop-term : goal.invariant-loop-term
invariant-loop-term l = l.out ≡ l.initial.out ++ spaced (map arg_spelling (take l.term-index l.terms))
