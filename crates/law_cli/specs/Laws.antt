-- Laws of answers: each text has one at most for each command, and a good text has what was asked for.
use Rattle.std.specs.Prelude.{◌≡◌, ℕ, List, Option}
use Rattle.law_sig.specs.declared.parts.SigParts.{SigParts}
use Rattle.law_lines.specs.declared.raw.RawLine.{RawLine}
use Rattle.law_cert_text.specs.declared.cert.Cert.{Cert}
use Rattle.law_cert_text.specs.Readers.{IsReadAs}
use Rattle.law_named.specs.Named.{IsValidCert}
use Rattle.law_explore.specs.LawList.{IsWithin}
use Rattle.law_cli.specs.Answers.{IsStated, IsAnswerTo, most_terms}
use Rattle.law_cli.specs.Checks.{IsCheckAnswer}
use Rattle.law_cli.specs.Commands.{most_bytes}
use Rattle.law_cli.specs.Reading.{WasRead}
use Rattle.law_cli.specs.declared.command.Command.{Command}
use Rattle.law_cli.specs.declared.command.Command.TheVariants as command
use Rattle.law_cli.specs.declared.status.Status.{Status}
use Rattle.law_cli.specs.declared.status.Status.TheVariants as status

-- the answer of a command to the bytes of its input
abbrev pub IsAnswer : Command → List ℕ → Status → List ℕ → Type 0
IsAnswer command.Plain = IsAnswerTo
IsAnswer command.Check = IsCheckAnswer

-- the input was read to its end, and this is the answer to its bytes
pub record IsAnswerFrom (asked : Command) (left_before left_now : Option (List ℕ)) (s : Status) (text : List ℕ) : Type 0 where
  pub bytes : List ℕ
  pub read : WasRead left_before left_now bytes (most_bytes asked)
  pub answer : IsAnswer asked bytes s text

-- two answers to the same bytes are the same: so each status comes exactly where its cause holds
abbrev pub OneAnswer : Type 0
OneAnswer = (asked : Command) (bytes text other : List ℕ) (s u : Status) → IsAnswer asked bytes s text → IsAnswer asked bytes u other → (s ≡ u) × (text ≡ other)

-- the bytes state a signature that nothing refuses: within all limits, its background holds, and every application is
-- within the budget
pub record IsGoodSignature (bytes : List ℕ) : Type 0 where
  pub lines : List RawLine
  pub parts : SigParts
  pub stated : IsStated bytes lines parts
  pub within : IsWithin parts most_terms

-- the bytes spell a valid certificate
pub record IsGoodCertificate (bytes : List ℕ) : Type 0 where
  pub cert : Cert
  pub read : IsReadAs bytes cert
  pub valid : IsValidCert cert

-- the bytes are a good input of a command
abbrev pub IsGood : Command → List ℕ → Type 0
IsGood command.Plain = IsGoodSignature
IsGood command.Check = IsGoodCertificate

-- the answer to them is what was asked for
abbrev pub GoodIsDone : Type 0
GoodIsDone = (asked : Command) (bytes text : List ℕ) (s : Status) → IsGood asked bytes → IsAnswer asked bytes s text → s ≡ status.Done
