-- Which lines have a reading, and the first line of a text that has none.
use Rattle.std.specs.Prelude.{◌≡◌, ℕ, List, [], ◌∷◌, ◌++◌, ◌⊎◌}
use Rattle.std.specs.List.{AllByRecursion}
use Rattle.law_lines.specs.Spelling.{text_of}
use Rattle.law_lines.specs.Texts.{FirstLine, IsUnbroken, next_number}
use Rattle.law_cert_text.specs.declared.cert.Cert.{Cert}
use Rattle.law_cert_text.specs.Spelling.{cert_lines}
use Rattle.law_cert_text.specs.Certificates.{IsCertText}

-- Lines have a reading where the lines of some certificate begin with them.
pub record HasReading (lines : List (List ℕ)) : Type 0 where
  pub cert : Cert
  pub spelled : IsCertText cert
  pub more : List (List ℕ)
  pub begins : cert_lines cert ≡ lines ++ more

-- They are all the lines of a certificate.
pub record AreAll (lines : List (List ℕ)) : Type 0 where
  pub cert : Cert
  pub spelled : IsCertText cert
  pub same : cert_lines cert ≡ lines

-- The next line of the text has no reading behind the lines before it.
pub record FaultyLine (lines : List (List ℕ)) (left : List ℕ) : Type 0 where
  pub line : List ℕ
  pub behind : List ℕ
  pub first : FirstLine left line behind
  pub stuck : HasReading (lines ++ line ∷ []) → ⊥

-- The text ends in an unfinished line, or where a line is needed.
pub record Unfinished (lines : List (List ℕ)) (left : List ℕ) : Type 0 where
  pub open_line : IsUnbroken left
  pub absent : left ≡ [] → AreAll lines → ⊥

-- The lines before the one with this number have a reading, and what is left behind them has this fault.
pub record FaultAt (text : List ℕ) (number : ℕ) (Why : List (List ℕ) → List ℕ → Type 0) : Type 0 where
  pub lines : List (List ℕ)
  pub left : List ℕ
  pub parts : text ≡ text_of lines ++ left
  pub whole : AllByRecursion IsUnbroken lines
  pub reads : HasReading lines
  pub next : number ≡ next_number lines
  pub why : Why lines left

-- The first line that has no reading has this number.
abbrev pub FirstFault : List ℕ → ℕ → Type 0
FirstFault text number = FaultAt text number FaultyLine ⊎ FaultAt text number Unfinished
