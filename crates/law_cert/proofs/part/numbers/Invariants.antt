use Rattle.std.proofs.Common.{ℕ, decimal, length}
use Rattle.law_lines.specs.Lines.{IsNumber}
use Rattle.law_cert_text.specs.Words.{SoFar}
use Rattle.law_cert.proofs.part.numbers.Given as goal

abbrev pub invariant-loop-rest : goal.invariant-loop-rest
invariant-loop-rest l = SoFar ℕ IsNumber decimal l.bytes l.rest l.found

abbrev pub decreases-loop-rest : goal.decreases-loop-rest
decreases-loop-rest l = length l.rest
