-- Laws of certificates as texts, each proved by the contract of a function in `src/laws.rt`.
use Rattle.std.specs.Prelude.{◌≡◌, ℕ, ◌⊎◌, List, ◌++◌, Result, Err, IfOk, IfErr, MatchResult}
use Rattle.law_cert_text.specs.declared.cert.Cert.{Cert}
use Rattle.law_cert_text.specs.declared.cert.LawList.{LawList}
use Rattle.law_cert_text.specs.declared.line.CertLine.{CertLine}
use Rattle.law_cert_text.specs.declared.error.CertErr.{CertErr}
use Rattle.law_cert_text.specs.declared.error.CertErr.TheVariants as error
use Rattle.law_cert_text.specs.Readers.{HasHeard, Heard, IsFed, IsReadAs, IsStopped, IsWhole, NotWhole, RefusedBy, Stops, heard_text}
use Rattle.law_cert_text.specs.Readings.{FaultAt, FaultyLine, FirstFault}
use Rattle.law_cert_text.specs.Spelling.{cert_spelling, list_spelling}
use Rattle.law_cert_text.specs.Certificates.{IsCertText, IsListText}
use Rattle.law_cert_text.specs.CertLines.{IsCertLine, line_text}

-- Bytes are the spelling of one line behind a signature at most.
abbrev pub OneLine : Type 0
OneLine = (line other : CertLine) → IsCertLine line → IsCertLine other → line_text line ≡ line_text other → line ≡ other

-- A text is the spelling of one certificate at most.
abbrev pub OneCert : Type 0
OneCert = (cert other : Cert) → IsCertText cert → IsCertText other → cert_spelling cert ≡ cert_spelling other → cert ≡ other

-- A text is the spelling of one law list at most.
abbrev pub OneList : Type 0
OneList = (list other : LawList) → IsListText list → IsListText other → list_spelling list ≡ list_spelling other → list ≡ other

-- A reader that has stopped gives each further piece the same answer, and keeps it.
abbrev pub StaysStopped : Type 0
StaysStopped = (old new : Heard) (piece : List ℕ) (was : CertErr) → Stops old was → (answer : Result Unit CertErr) → MatchResult answer (λ _. IsFed old new piece) (IsStopped old new piece) → (answer ≡ Err was) × Stops new was

-- A reader that was given a text, and then a piece, was given both as one text, however it was cut.
abbrev pub OneText : Type 0
OneText = (old new : Heard) (text piece : List ℕ) → HasHeard old text → (answer : Result Unit CertErr) → MatchResult answer (λ _. IsFed old new piece) (IsStopped old new piece)
    → (answer ≡ Err error.NoMemory) ⊎ HasHeard new (text ++ piece)

-- No finished line of what was read is without a reading.
abbrev pub FedReads : Type 0
FedReads = (old new : Heard) (piece : List ℕ) → IsFed old new piece → (number : ℕ) → FaultAt (heard_text old ++ piece) number FaultyLine → ⊥

-- In the end a reader answers what the reading of the whole text answers.
abbrev pub EndsAsOne : Type 0
EndsAsOne = (heard : Heard) (text : List ℕ) → HasHeard heard text → (answer : Result Cert CertErr) → IfOk answer (IsWhole heard) → IfErr answer (NotWhole heard)
    → MatchResult answer (IsReadAs text) (RefusedBy text)

-- A text with a line without a reading is the spelling of no certificate.
abbrev pub RefusedIsNone : Type 0
RefusedIsNone = (text : List ℕ) (number : ℕ) → FirstFault text number → (cert : Cert) → IsCertText cert → cert_spelling cert ≡ text → ⊥

-- One line at most is the first without a reading.
abbrev pub OneFault : Type 0
OneFault = (text : List ℕ) (number other : ℕ) → FirstFault text number → FirstFault text other → number ≡ other
