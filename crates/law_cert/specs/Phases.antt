-- How far the text of a certificate is, and what the reader of one keeps.
use Rattle.std.specs.Prelude.{◌≡◌, ℕ, ◌-◌, ◌^◌, min, length, Bool, true, false, List, [], ◌∷◌, ◌++◌, map, Option, Some, None}
use Rattle.std.specs.List.{AllByRecursion}
use Rattle.law_lines.specs.declared.want.Bounds.TheVariants.{Kept}
use Rattle.law_lines.specs.Faults.{is_closed_by}
use Rattle.law_lines.specs.Lines.{IsLine}
use Rattle.law_lines.specs.Signature.{IsRawSig}
use Rattle.law_lines.specs.Spelling.{line_spelling}
use Rattle.law_lines.specs.Stages.{InOrder, stage_behind, start}
use Rattle.law_lines.specs.Texts.{IsUnbroken}
use Rattle.law_places.specs.Progress.{Progress}
use Rattle.law_cert_text.specs.Drafts.{IsReached}
use Rattle.law_cert_text.specs.Readers.{body_lines, head_text}
use Rattle.law_cert_text.specs.Readings.{HasReading}
use Rattle.law_cert.specs.declared.phase.Phase.{Phase}
use Rattle.law_cert.specs.declared.phase.Phase.TheVariants as p

-- the lines that were read
abbrev pub phase_lines : Phase → List (List ℕ)
phase_lines p.Head = []
phase_lines (p.Sig reader) = head_text ∷ map line_spelling reader.lines
phase_lines (p.Body sig draft) = head_text ∷ (map line_spelling sig ++ body_lines draft)
phase_lines (p.Refused number) = []
phase_lines p.Starved = []

abbrev pub phase_refused : Phase → Option ℕ
phase_refused (p.Refused number) = Some number
phase_refused phase = None

abbrev pub phase_starved : Phase → Bool
phase_starved p.Starved = true
phase_starved phase = false

-- The lines of a signature that isn't over.
pub record IsSigOpen (reader : Progress) : Type 0 where
  pub going : reader.refused ≡ None
  pub order : InOrder start reader.lines
  pub each : AllByRecursion (IsLine Kept) reader.lines
  pub unclosed : is_closed_by (stage_behind start reader.lines).last ≡ false

abbrev pub IsPhase : Phase → Type 0
IsPhase (p.Sig reader) = IsSigOpen reader
IsPhase (p.Body sig draft) = IsRawSig sig × IsReached draft
IsPhase phase = Unit {0}

abbrev pub IsGoing : Phase → Type 0
IsGoing phase = (phase_refused phase ≡ None) × (phase_starved phase ≡ false)

-- The phase with one more line, or no certificate has the lines with it.
abbrev pub IsPhaseWith : Phase → List ℕ → Option Phase → Type 0
IsPhaseWith before line None = IsGoing before → HasReading (phase_lines before ++ line ∷ []) → ⊥
IsPhaseWith before line (Some phase) = IsPhase phase × IsGoing phase × (phase_lines phase ≡ phase_lines before ++ line ∷ [])

-- how the reader's fields hang together
pub record IsReader (phase : Phase) (count : ℕ) (unfinished : List ℕ) : Type 0 where
  pub is : IsPhase phase
  pub counted : IsGoing phase → count ≡ min (length (phase_lines phase)) (2 ^ 64 - 1)
  pub whole : IsGoing phase → IsUnbroken unfinished
