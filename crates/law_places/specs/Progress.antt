-- What the reader of lines knows: the lines so far, and the line that it refused.
use Rattle.std.specs.Prelude.{◌≡◌, ℕ, Bool, List, [], ◌∷◌, ◌++◌, map, Option, Some, None, ◌⊎◌}
use Rattle.std.specs.List.{AllByRecursion}
use Rattle.law_lines.specs.declared.raw.RawLine.{RawLine}
use Rattle.law_lines.specs.declared.want.Bounds.TheVariants.{Kept}
use Rattle.law_lines.specs.declared.error.ReadKind.{ReadKind}
use Rattle.law_lines.specs.declared.error.ReadKind.TheVariants as k
use Rattle.law_lines.specs.declared.stage.Stage.{Stage}
use Rattle.law_lines.specs.declared.stage.Key.TheVariants.{End}
use Rattle.law_lines.specs.Spelling.{line_spelling, sig_spelling, term_spelling}
use Rattle.law_lines.specs.Lines.{IsLine}
use Rattle.law_lines.specs.Signature.{IsRawSig}
use Rattle.law_lines.specs.Stages.{InOrder, start, stage_behind}
use Rattle.law_lines.specs.Faults.{is_closed_by}
use Rattle.law_lines.specs.Walk.{line_fault, term_fault}
use Rattle.law_lines.specs.Terms.{IsTerm}
use Rattle.law_lines.specs.declared.raw.RawTerm.{RawTerm}
use Rattle.law_lines.specs.declared.want.Place.TheVariants as p
use Rattle.law_places.specs.LineReads.{LineRead}
use Rattle.law_lines.specs.Places.{LineKind}
use Rattle.law_lines.specs.Texts.{FirstLine, HasReading, IsUnbroken, next_number}
use Rattle.law_lines.specs.declared.error.ReadErr.{ReadErr}
use Rattle.law_lines.specs.declared.error.ReadErr.TheVariants as error

pub record Progress : Type 0 where
  pub lines : List RawLine
  pub refused : Option (ℕ × ReadKind)

pub record IsProgress (stage : Stage) (lines : List RawLine) : Type 0 where
  pub here : stage ≡ stage_behind start lines
  pub order : InOrder start lines
  pub each : AllByRecursion (IsLine Kept) lines

-- whether the lines lead to `end`
abbrev pub IsClosed : List RawLine → Type 0
IsClosed lines = (stage_behind start lines).last ≡ Some End

-- a line was read, and no rule refuses it
pub record LineTaken (stage : Stage) (bytes : List ℕ) (line : RawLine) : Type 0 where
  pub read : LineRead stage bytes line
  pub faultless : line_fault stage bytes ≡ None

-- The line was added: it is the one spelling of the last line now, and that line is `end` exactly where
-- the answer is true.
pub record Added (old new : Progress) (bytes : List ℕ) (done : Bool) : Type 0 where
  pub before : old.refused ≡ None
  pub after : new.refused ≡ None
  pub line : RawLine
  pub lines : new.lines ≡ old.lines ++ line ∷ []
  pub text : line_spelling line ≡ bytes
  pub order : InOrder start new.lines
  pub each : AllByRecursion (IsLine Kept) new.lines
  pub closed : done ≡ is_closed_by (stage_behind start new.lines).last
  pub reads : HasReading (map line_spelling new.lines)

-- No text of the grammar has the line behind those before it: it has no reading, and why.
pub record NoReading (lines : List RawLine) (bytes : List ℕ) (why : ReadKind) : Type 0 where
  pub stuck : HasReading (map line_spelling lines ++ bytes ∷ []) → ⊥
  pub kind : LineKind lines bytes why
  pub fault : line_fault (stage_behind start lines) bytes ≡ Some why

-- The line was refused, now or earlier, and stays so.
pub record RefusedAt (old new : Progress) (bytes : List ℕ) (number : ℕ) (kind : ReadKind) : Type 0 where
  pub lines : new.lines ≡ old.lines
  pub kept : new.refused ≡ Some (number, kind)
  pub why : (old.refused ≡ Some (number, kind))
      ⊎ ((old.refused ≡ None) × (number ≡ next_number old.lines) × NoReading old.lines bytes kind)

abbrev pub Refused : Progress → Progress → List ℕ → ReadErr → Type 0
Refused old new bytes (error.Form number kind) = RefusedAt old new bytes number kind
Refused old new bytes error.NoMemory = new ≡ old

pub record Finished (reader : Progress) (lines : List RawLine) : Type 0 where
  pub refused : reader.refused ≡ None
  pub same : lines ≡ reader.lines
  pub signature : IsRawSig lines

-- a line was refused, or `end` is absent
abbrev pub NotFinished : Progress → ReadErr → Type 0
NotFinished reader (error.Form number kind) = (reader.refused ≡ Some (number, kind))
    ⊎ ((reader.refused ≡ None) × (number ≡ next_number reader.lines) × (kind ≡ k.Missing) × (IsClosed reader.lines → ⊥))
NotFinished reader error.NoMemory = ⊥

-- Where the reader of a text stops: it read the lines before, and the next one has a fault, or is unfinished or absent.
pub record StopsByFault (lines : List RawLine) (left : List ℕ) (kind : ReadKind) : Type 0 where
  pub line : List ℕ
  pub behind : List ℕ
  pub first : FirstLine left line behind
  pub fault : line_fault (stage_behind start lines) line ≡ Some kind

pub record StopsByEnd (lines : List RawLine) (left : List ℕ) (kind : ReadKind) : Type 0 where
  pub open_line : IsUnbroken left
  pub absent : (left ≡ []) → IsClosed lines → ⊥
  pub missing : kind ≡ k.Missing

pub record StopsAt (text : List ℕ) (number : ℕ) (kind : ReadKind) : Type 0 where
  pub lines : List RawLine
  pub left : List ℕ
  pub parts : text ≡ sig_spelling lines ++ left
  pub order : InOrder start lines
  pub each : AllByRecursion (IsLine Kept) lines
  pub next : number ≡ next_number lines
  pub why : StopsByFault lines left kind ⊎ StopsByEnd lines left kind

abbrev pub StoppedBy : List ℕ → ReadErr → Type 0
StoppedBy text (error.Form number kind) = StopsAt text number kind
StoppedBy text error.NoMemory = Unit {0}

-- a term by itself was read
pub record TermFound (bytes : List ℕ) (term : RawTerm) : Type 0 where
  pub is_term : IsTerm Kept p.Equation term
  pub text : term_spelling term ≡ bytes
  pub faultless : term_fault bytes ≡ None
