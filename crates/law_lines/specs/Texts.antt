-- Whole texts: what has a reading, and the first line that has none.
use Rattle.std.specs.Prelude.{◌≡◌, ℕ, ◌+◌, ◌-◌, ◌^◌, Bool, false, ◌==◌, List, [], ◌∷◌, ◌++◌, length, map, min, ◌⊎◌}
use Rattle.std.specs.List.{AllByRecursion, list_any}
use Rattle.law_lines.specs.declared.raw.RawLine.{RawLine}
use Rattle.law_lines.specs.declared.raw.RawTerm.{RawTerm}
use Rattle.law_lines.specs.declared.want.Bounds.TheVariants.{Kept}
use Rattle.law_lines.specs.declared.want.Place.TheVariants as p
use Rattle.law_lines.specs.declared.error.ReadKind.{ReadKind}
use Rattle.law_lines.specs.declared.error.ReadKind.TheVariants as k
use Rattle.law_lines.specs.declared.error.ReadErr.{ReadErr}
use Rattle.law_lines.specs.declared.error.ReadErr.TheVariants as error
use Rattle.law_lines.specs.Spelling.{line_spelling, sig_spelling, term_spelling, text_of}
use Rattle.law_lines.specs.Terms.{IsTerm}
use Rattle.law_lines.specs.Signature.{IsRawSig}
use Rattle.law_lines.specs.Places.{LineKind, TermKind}

abbrev pub has_feed : List ℕ → Bool
has_feed bytes = list_any (λ b. b == 10) bytes

abbrev pub IsUnbroken : List ℕ → Type 0
IsUnbroken line = has_feed line ≡ false

-- the first line of a text, without its line feed, and what stands behind that
pub record FirstLine (text line behind : List ℕ) : Type 0 where
  pub parts : text ≡ line ++ 10 ∷ behind
  pub whole : IsUnbroken line

-- Lines have a reading where some text of the grammar begins with them.
pub record HasReading (lines : List (List ℕ)) : Type 0 where
  pub sig : List RawLine
  pub signature : IsRawSig sig
  pub more : List (List ℕ)
  pub begins : map line_spelling sig ≡ lines ++ more

-- They are all the lines of a signature.
pub record AreAll (lines : List (List ℕ)) : Type 0 where
  pub sig : List RawLine
  pub signature : IsRawSig sig
  pub same : map line_spelling sig ≡ lines

-- What lines are read as: these are their spellings, and they begin a signature.
pub record AreRead (lines : List (List ℕ)) (raw : List RawLine) : Type 0 where
  pub same : map line_spelling raw ≡ lines
  pub after : List RawLine
  pub signature : IsRawSig (raw ++ after)

-- The next line of the text has no reading behind the lines before it, and why.
pub record FaultyLine (lines : List (List ℕ)) (left : List ℕ) (why : ReadKind) : Type 0 where
  pub line : List ℕ
  pub behind : List ℕ
  pub first : FirstLine left line behind
  pub stuck : HasReading (lines ++ line ∷ []) → ⊥
  pub raw : List RawLine
  pub read : AreRead lines raw
  pub kind : LineKind raw line why

-- The text ends in an unfinished line, or where a line is needed.
pub record Unfinished (lines : List (List ℕ)) (left : List ℕ) (kind : ReadKind) : Type 0 where
  pub open_line : IsUnbroken left
  pub absent : left ≡ [] → AreAll lines → ⊥
  pub missing : kind ≡ k.Missing

-- the number of the line behind these, counted from 1 and held at the largest number
abbrev pub next_number : {A : Type 0} → List A → ℕ
next_number lines = min (length lines + 1) (2 ^ 64 - 1)

-- The first line that has no reading has this number, and this kind.
pub record FirstFault (text : List ℕ) (number : ℕ) (kind : ReadKind) : Type 0 where
  pub lines : List (List ℕ)
  pub left : List ℕ
  pub parts : text ≡ text_of lines ++ left
  pub whole : AllByRecursion IsUnbroken lines
  pub reads : HasReading lines
  pub next : number ≡ next_number lines
  pub why : FaultyLine lines left kind ⊎ Unfinished lines left kind

-- The text is the spelling of this signature, and of no other.
pub record IsReadAs (text : List ℕ) (lines : List RawLine) : Type 0 where
  pub signature : IsRawSig lines
  pub spelled : sig_spelling lines ≡ text
  pub only : (others : List RawLine) → IsRawSig others → sig_spelling others ≡ text → others ≡ lines

-- The text is the spelling of no signature, and its first fault is this.
pub record IsRefused (text : List ℕ) (number : ℕ) (kind : ReadKind) : Type 0 where
  pub none : (lines : List RawLine) → IsRawSig lines → sig_spelling lines ≡ text → ⊥
  pub fault : FirstFault text number kind

abbrev pub RefusedBy : List ℕ → ReadErr → Type 0
RefusedBy text (error.Form number kind) = IsRefused text number kind
RefusedBy text error.NoMemory = Unit {0}

-- The bytes are the spelling of this term of equations, and of no other.
pub record TermTaken (bytes : List ℕ) (term : RawTerm) : Type 0 where
  pub is_term : IsTerm Kept p.Equation term
  pub text : term_spelling term ≡ bytes
  pub only : (other : RawTerm) → IsTerm Kept p.Equation other → term_spelling other ≡ bytes → other ≡ term

-- They are the spelling of none, and why.
pub record TermRefused (bytes : List ℕ) (number : ℕ) (why : ReadKind) : Type 0 where
  pub none : (term : RawTerm) → IsTerm Kept p.Equation term → term_spelling term ≡ bytes → ⊥
  pub first : number ≡ 1
  pub kind : TermKind bytes why

abbrev pub TermFault : List ℕ → ReadErr → Type 0
TermFault bytes (error.Form number kind) = TermRefused bytes number kind
TermFault bytes error.NoMemory = Unit {0}
