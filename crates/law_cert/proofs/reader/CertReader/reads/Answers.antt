use Rattle.std.proofs.Common.{subst}
use Rattle.law_lines.specs.Texts.{IsUnbroken}
use Rattle.law_cert_text.specs.Readings.{HasReading}
use Rattle.law_cert_text.specs.Readers.{IsOpen}
use Rattle.law_cert.proofs.PhaseFacts.{phase_reads}
use Rattle.law_cert.proofs.reader.CertReader.reads.Goals as goal

pub returns : goal.returns
returns c = record {
  reads = subst (λ heard. HasReading heard.lines) c.self.view_is (phase_reads c.self.inside.phase c.self.invariant.is);
  whole = subst (λ heard. IsOpen heard → IsUnbroken heard.unfinished) c.self.view_is (λ o. c.self.invariant.whole (o.allowed, o.fed));
}
