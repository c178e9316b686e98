use Rattle.std.proofs.Common.{◌≡◌, ◌++◌, take}
use Rattle.law_cert_text.specs.Spelling.{dotted}
use Rattle.law_cert.proofs.write.put_dotted.Given as goal

abbrev pub invariant-loop-number : goal.invariant-loop-number
invariant-loop-number l = l.out ≡ l.initial.out ++ dotted (take l.number-index l.numbers)
