use Rattle.std.proofs.Common.{length}
use Rattle.law_cert_text.specs.declared.cert.RawBind.{RawBind}
use Rattle.law_cert_text.specs.Spelling.{bind_text}
use Rattle.law_cert_text.specs.Certificates.{IsBind}
use Rattle.law_cert_text.specs.Words.{SoFar}
use Rattle.law_cert.proofs.part.binds.Given as goal

abbrev pub invariant-loop-rest : goal.invariant-loop-rest
invariant-loop-rest l = SoFar RawBind IsBind bind_text l.bytes l.rest l.found

abbrev pub decreases-loop-rest : goal.decreases-loop-rest
decreases-loop-rest l = length l.rest
