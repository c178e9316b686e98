-- What stands where a text is over.
use Rattle.std.specs.Prelude.{◌≡◌, ℕ, true, false, Some, None, ◌⊎◌}
use Rattle.law_cert_text.specs.declared.cert.Cert.{Cert}
use Rattle.law_cert.specs.declared.phase.Phase.{Phase}
use Rattle.law_cert_text.specs.declared.error.CertErr.{CertErr}
use Rattle.law_cert_text.specs.declared.error.CertErr.TheVariants as error
use Rattle.law_cert_text.specs.Spelling.{cert_lines}
use Rattle.law_cert_text.specs.Certificates.{IsCertText}
use Rattle.law_cert.specs.Phases.{IsGoing, phase_lines, phase_refused, phase_starved}
use Rattle.law_cert_text.specs.Readings.{AreAll}

-- The certificate of the lines that were read.
pub record IsFinished (phase : Phase) (cert : Cert) : Type 0 where
  pub going : IsGoing phase
  pub spelled : IsCertText cert
  pub lines : cert_lines cert ≡ phase_lines phase

-- The text is over too early, and the line that is absent has this number; or the phase had stopped.
abbrev pub NotFinished : Phase → ℕ → CertErr → Type 0
NotFinished phase line (error.Form number) = ((phase_refused phase ≡ Some number) × (phase_starved phase ≡ false))
    ⊎ (IsGoing phase × (number ≡ line) × (AreAll (phase_lines phase) → ⊥))
NotFinished phase line error.NoMemory = (phase_starved phase ≡ true) × (phase_refused phase ≡ None)
