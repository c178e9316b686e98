use Rattle.std.proofs.Common.{length}
use Rattle.law_cert_text.specs.Words.{PathSoFar}
use Rattle.law_cert.proofs.part.path.Given as goal

abbrev pub invariant-loop-digits : goal.invariant-loop-digits
invariant-loop-digits l = PathSoFar l.word l.rest l.numbers

abbrev pub decreases-loop-digits : goal.decreases-loop-digits
decreases-loop-digits l = length l.rest
