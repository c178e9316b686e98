-- Laws of the texts, each proved by the contract of a function with an empty body.
use Rattle.std.specs.Prelude.{◌≡◌, true, List, [], ◌∷◌, None}
use Rattle.law_lines.specs.Pieces.{pieces}
use Rattle.law_lines.specs.declared.raw.RawLine.{RawLine}
use Rattle.law_lines.specs.declared.raw.RawTerm.{RawTerm}
use Rattle.law_lines.specs.declared.want.Place.{Place}
use Rattle.law_lines.specs.declared.want.Want.TheVariants as w
use Rattle.law_lines.specs.declared.want.Bounds.{Bounds}
use Rattle.law_lines.specs.declared.want.Bounds.TheVariants.{Kept}
use Rattle.law_lines.specs.declared.stage.Stage.{Stage}
use Rattle.law_lines.specs.Spelling.{line_spelling, sig_spelling, term_spelling}
use Rattle.law_lines.specs.Terms.{IsTerm}
use Rattle.law_lines.specs.Signature.{IsRawSig}
use Rattle.law_lines.specs.Lines.{IsLine}
use Rattle.law_lines.specs.Stages.{IsOfVersion, allows, line_key}
use Rattle.law_lines.specs.Walk.{walk_in, line_fault}

-- A line that may come at a stage and that the grammar spells, with its bounds or without them, is read to its end.
abbrev pub SpelledIsWalked : Type 0
SpelledIsWalked = (bounds : Bounds) (stage : Stage) (line : RawLine) → allows stage (line_key line) ≡ true → IsOfVersion stage.version line → IsLine bounds line
    → walk_in bounds 0 (w.Key stage ∷ []) (pieces (line_spelling line)) ≡ None

-- One within the bounds has no fault. So a line that has one is the spelling of no line that may come at the stage.
abbrev pub SpelledIsRead : Type 0
SpelledIsRead = (stage : Stage) (line : RawLine) → allows stage (line_key line) ≡ true → IsOfVersion stage.version line → IsLine Kept line
    → line_fault stage (line_spelling line) ≡ None

-- A text is the spelling of one signature at most.
abbrev pub OneText : Type 0
OneText = (lines others : List RawLine) → IsRawSig lines → IsRawSig others → sig_spelling lines ≡ sig_spelling others → lines ≡ others

-- Bytes are the spelling of one term at most.
abbrev pub OneTerm : Type 0
OneTerm = (place : Place) (term other : RawTerm) → IsTerm Kept place term → IsTerm Kept place other → term_spelling term ≡ term_spelling other → term ≡ other
