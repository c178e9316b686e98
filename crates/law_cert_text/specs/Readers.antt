-- What the reader of a certificate has, and what it says.
use Rattle.std.specs.Prelude.{◌≡◌, ℕ, ◌⊎◌, Bool, true, false, List, [], ◌∷◌, ◌++◌, map, Option, Some, None, codes}
use Rattle.law_lines.specs.Spelling.{text_of}
use Rattle.law_lines.specs.Texts.{IsUnbroken, next_number}
use Rattle.law_cert_text.specs.declared.cert.Cert.{Cert}
use Rattle.law_cert_text.specs.declared.draft.Draft.{Draft}
use Rattle.law_cert_text.specs.declared.error.CertErr.{CertErr}
use Rattle.law_cert_text.specs.declared.error.CertErr.TheVariants as error
use Rattle.law_cert_text.specs.Spelling.{cert_lines, cert_spelling}
use Rattle.law_cert_text.specs.Certificates.{IsCertText}
use Rattle.law_cert_text.specs.CertLines.{line_text}
use Rattle.law_cert_text.specs.Drafts.{read_of}
use Rattle.law_cert_text.specs.Readings.{FaultAt, FaultyLine, FirstFault, HasReading, Unfinished}

abbrev pub head_text : List ℕ
head_text = codes "certificate 1"

abbrev pub body_lines : Draft → List (List ℕ)
body_lines draft = map line_text (read_of draft)

-- The lines read, the unfinished one, the number of a line that was refused, and whether memory was.
pub record Heard : Type 0 where
  pub lines : List (List ℕ)
  pub unfinished : List ℕ
  pub refused : Option ℕ
  pub starved : Bool

-- what the pieces say together, while nothing is refused
abbrev pub heard_text : Heard → List ℕ
heard_text heard = text_of heard.lines ++ heard.unfinished

pub record IsOpen (heard : Heard) : Type 0 where
  pub allowed : heard.refused ≡ None
  pub fed : heard.starved ≡ false

-- The piece is read, each line that is finished by then has a reading, and what is left is of one line.
pub record IsFed (old new : Heard) (piece : List ℕ) : Type 0 where
  pub before : IsOpen old
  pub after : IsOpen new
  pub text : heard_text new ≡ heard_text old ++ piece
  pub reads : HasReading new.lines
  pub whole : IsUnbroken new.unfinished

-- the line that the reader names is the one that it keeps
abbrev pub Stops : Heard → CertErr → Type 0
Stops heard (error.Form number) = (heard.refused ≡ Some number) × (heard.starved ≡ false)
Stops heard error.NoMemory = (heard.starved ≡ true) × (heard.refused ≡ None)

abbrev pub Faults : List ℕ → CertErr → Type 0
Faults text (error.Form number) = FaultAt text number FaultyLine
Faults text error.NoMemory = Unit {0}

-- a line of the text, or memory, is refused now
pub record StopsNow (old : Heard) (piece : List ℕ) (why : CertErr) : Type 0 where
  pub before : IsOpen old
  pub fault : Faults (heard_text old ++ piece) why

-- It is refused now, or was earlier, and the reader keeps that.
pub record IsStopped (old new : Heard) (piece : List ℕ) (why : CertErr) : Type 0 where
  pub kept : Stops new why
  pub cause : Stops old why ⊎ StopsNow old piece why

-- the first line of the text that has no reading was refused
pub record IsRefusing (heard : Heard) (text : List ℕ) : Type 0 where
  pub number : ℕ
  pub stops : Stops heard (error.Form number)
  pub fault : FaultAt text number FaultyLine

-- what a reader has that was given this text, in whatever pieces: all of it, or the first line without a reading
abbrev pub HasHeard : Heard → List ℕ → Type 0
HasHeard heard text = (IsOpen heard × (heard_text heard ≡ text)) ⊎ IsRefusing heard text

-- The unfinished line is over, and has no reading.
pub record IsFaulty (old : Heard) (number : ℕ) : Type 0 where
  pub whole : IsUnbroken old.unfinished
  pub reads : HasReading old.lines
  pub next : number ≡ next_number old.lines
  pub stuck : HasReading (old.lines ++ old.unfinished ∷ []) → ⊥

abbrev pub IsClosedTo : Heard → Option ℕ → Type 0
IsClosedTo old None = Unit {0}
IsClosedTo old (Some number) = IsFaulty old number

-- the text ends too early, or the reader had stopped
abbrev pub NotWhole : Heard → CertErr → Type 0
NotWhole heard (error.Form number) = Stops heard (error.Form number) ⊎ (IsOpen heard × FaultAt (heard_text heard) number Unfinished)
NotWhole heard error.NoMemory = Stops heard error.NoMemory

-- The certificate of the lines.
pub record IsWhole (heard : Heard) (cert : Cert) : Type 0 where
  pub open_reader : IsOpen heard
  pub none_left : heard.unfinished ≡ []
  pub spelled : IsCertText cert
  pub lines : cert_lines cert ≡ heard.lines

-- The text is the spelling of the certificate, which the grammar spells.
pub record IsReadAs (text : List ℕ) (cert : Cert) : Type 0 where
  pub is : IsCertText cert
  pub spelled : cert_spelling cert ≡ text

-- The first line without a reading has this number.
abbrev pub RefusedBy : List ℕ → CertErr → Type 0
RefusedBy text (error.Form number) = FirstFault text number
RefusedBy text error.NoMemory = Unit {0}
