-- Laws of texts that have no reading, each proved by the contract of a function with an empty body.
use Rattle.std.specs.Prelude.{◌≡◌, ℕ, true, List, None}
use Rattle.law_lines.specs.declared.raw.RawLine.{RawLine}
use Rattle.law_lines.specs.declared.want.Bounds.TheVariants.{Kept}
use Rattle.law_lines.specs.declared.stage.Stage.{Stage}
use Rattle.law_lines.specs.Spelling.{line_spelling, sig_spelling}
use Rattle.law_lines.specs.Signature.{IsRawSig}
use Rattle.law_lines.specs.Texts.{FirstFault, TermRefused}
use Rattle.law_lines.specs.declared.error.ReadKind.{ReadKind}
use Rattle.law_lines.specs.Lines.{IsLine}
use Rattle.law_lines.specs.Stages.{IsOfVersion, allows, line_key}
use Rattle.law_lines.specs.Walk.{line_fault}

-- A line that has no fault at a stage is the spelling of one that may come there.
pub record Comes (stage : Stage) (bytes : List ℕ) : Type 0 where
  pub line : RawLine
  pub allowed : allows stage (line_key line) ≡ true
  pub form : IsOfVersion stage.version line
  pub spelled : IsLine Kept line
  pub text : line_spelling line ≡ bytes

abbrev pub ReadIsSpelled : Type 0
ReadIsSpelled = (stage : Stage) (bytes : List ℕ) → line_fault stage bytes ≡ None → Comes stage bytes

-- A text with a first fault is the spelling of no signature, and it has one first fault: number and kind.
abbrev pub RefusedIsNoText : Type 0
RefusedIsNoText = (text : List ℕ) (number : ℕ) (kind : ReadKind) → FirstFault text number kind → (lines : List RawLine) → IsRawSig lines → sig_spelling lines ≡ text → ⊥

abbrev pub OneFault : Type 0
OneFault = (text : List ℕ) (number other : ℕ) (kind why : ReadKind) → FirstFault text number kind → FirstFault text other why → (number ≡ other) × (kind ≡ why)

abbrev pub OneTermFault : Type 0
OneTermFault = (bytes : List ℕ) (number other : ℕ) (kind why : ReadKind) → TermRefused bytes number kind → TermRefused bytes other why → (number ≡ other) × (kind ≡ why)
