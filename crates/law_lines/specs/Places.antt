-- Why a line has no reading: its kind, and its first place that has none.
use Rattle.std.specs.Prelude.{◌≡◌, ℕ, Bool, true, false, List, [], ◌∷◌, ◌++◌, map, codes, ◌⊎◌}
use Rattle.std.specs.List.{AllByRecursion, list_all}
use Rattle.law_lines.specs.Pieces.{Piece, pieces}
use Rattle.law_lines.specs.Pieces.Piece.{space, opening, closing, word}
use Rattle.law_lines.specs.declared.raw.RawLine.{RawLine}
use Rattle.law_lines.specs.declared.raw.RawTerm.{RawTerm}
use Rattle.law_lines.specs.declared.want.Bounds.{Bounds}
use Rattle.law_lines.specs.declared.want.Bounds.TheVariants.{Kept, Free}
use Rattle.law_lines.specs.declared.want.Place.TheVariants.{Equation}
use Rattle.law_lines.specs.declared.error.ReadKind.{ReadKind}
use Rattle.law_lines.specs.declared.error.ReadKind.TheVariants as k
use Rattle.law_lines.specs.Spelling.{line_spelling, term_spelling}
use Rattle.law_lines.specs.Terms.{IsTerm}
use Rattle.law_lines.specs.Lines.{IsLine}
use Rattle.law_lines.specs.Grammar.{Spells}
use Rattle.law_lines.specs.Order.{order, shape_of}
use Rattle.law_lines.specs.Stages.{stage_behind, start}
use Rattle.law_lines.specs.Numbers.{cut, is_number, is_bad_index, is_bad_behind}
use Rattle.law_lines.specs.Faults.{is_closed_by, is_printed, is_spaced}

-- Some signature of the grammar with these bounds has, behind these lines, a line that begins with these pieces.
pub record Begun (before : List RawLine) (bounds : Bounds) (front : List Piece) : Type 0 where
  pub line : RawLine
  pub after : List RawLine
  pub in_order : Spells order (map shape_of (before ++ line ∷ after))
  pub each : AllByRecursion (IsLine bounds) (before ++ line ∷ after)
  pub rest : List Piece
  pub begins : pieces (line_spelling line) ≡ front ++ rest

-- Some term of equations of the grammar with these bounds begins with these pieces.
pub record BegunTerm (bounds : Bounds) (front : List Piece) : Type 0 where
  pub term : RawTerm
  pub is_term : IsTerm bounds Equation term
  pub rest : List Piece
  pub begins : pieces (term_spelling term) ≡ front ++ rest

-- What stands at a place is at fault for its number: it is a word that isn't a number where `0` may stand; or its index, or
-- the number behind its `#` or `@`, isn't one where a variable, a parameter or a field may stand. May stand in the grammar
-- without its bounds: behind an eighth argument a number is still looked at.
abbrev pub NumberFault : (Bounds → List Piece → Type 0) → List Piece → Piece → Type 0
NumberFault Begins front space = ⊥
NumberFault Begins front opening = ⊥
NumberFault Begins front closing = ⊥
NumberFault Begins front (word bytes) =
    ((is_number bytes ≡ false) × Begins Free (front ++ word (codes "0") ∷ []))
    ⊎ (((is_bad_index (cut bytes) ≡ true) × Begins Free (front ++ word (codes "A.0") ∷ []))
    ⊎ (((is_bad_behind 35 bytes ≡ true) × Begins Free (front ++ word (codes "#0") ∷ []))
    ⊎ ((is_bad_behind 64 bytes ≡ true) × Begins Free (front ++ word (codes "@0") ∷ []))))

-- The kind of a piece that nothing has behind these pieces: its number is at fault; else a bound alone is, where the grammar
-- without its bounds has it there; or it is wrong altogether.
abbrev pub PieceKind : (Bounds → List Piece → Type 0) → List Piece → Piece → ReadKind → Type 0
PieceKind Begins front piece k.Number = NumberFault Begins front piece
PieceKind Begins front piece k.TooLong = (NumberFault Begins front piece → ⊥) × Begins Free (front ++ piece ∷ [])
PieceKind Begins front piece k.Word = (NumberFault Begins front piece → ⊥) × (Begins Free (front ++ piece ∷ []) → ⊥)
PieceKind Begins front piece kind = ⊥

-- The line ends there, or has a piece there with which nothing begins.
abbrev pub StopsThere : (Bounds → List Piece → Type 0) → List Piece → List Piece → ReadKind → Type 0
StopsThere Begins front [] kind = kind ≡ k.Missing
StopsThere Begins front (piece ∷ rest) kind = (Begins Kept (front ++ piece ∷ []) → ⊥) × PieceKind Begins front piece kind

-- What stands before the place begins a line; with the place it doesn't.
pub record FirstPlace (Begins : Bounds → List Piece → Type 0) (line : List ℕ) (kind : ReadKind) : Type 0 where
  pub front : List Piece
  pub rest : List Piece
  pub split : pieces line ≡ front ++ rest
  pub begins : Begins Kept front
  pub stops : StopsThere Begins front rest kind

-- The first of these that applies: a byte is out of range; a space leads, trails or is doubled; the line stands behind `end`;
-- or its first place without a reading decides.
abbrev pub KindBy : Bool → Bool → Bool → (Bounds → List Piece → Type 0) → List ℕ → ReadKind → Type 0
KindBy false spaced closed Begins line kind = kind ≡ k.Byte
KindBy true false closed Begins line kind = kind ≡ k.Doubled
KindBy true true true Begins line kind = kind ≡ k.Word
KindBy true true false Begins line kind = FirstPlace Begins line kind

-- the kind of a line that has no reading behind these
abbrev pub LineKind : List RawLine → List ℕ → ReadKind → Type 0
LineKind before line kind = KindBy (list_all is_printed line) (is_spaced line) (is_closed_by (stage_behind start before).last) (Begun before) line kind

-- the kind of bytes that are the spelling of no term of equations
abbrev pub TermKind : List ℕ → ReadKind → Type 0
TermKind bytes kind = KindBy (list_all is_printed bytes) (is_spaced bytes) false BegunTerm bytes kind
