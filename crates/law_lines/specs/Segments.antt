-- Parts of lines by themselves: an equation, and the values of a pool.
use Rattle.std.specs.Prelude.{◌≡◌, ℕ, List, ◌∷◌, ◌++◌, Option, Some, None, codes}
use Rattle.law_lines.specs.declared.raw.RawTerm.{RawTerm}
use Rattle.law_lines.specs.declared.raw.RawLine.TheVariants.{Values}
use Rattle.law_lines.specs.declared.want.Bounds.TheVariants.{Kept}
use Rattle.law_lines.specs.declared.want.Place.TheVariants.{Equation}
use Rattle.law_lines.specs.Spelling.{joined, line_spelling, term_words}
use Rattle.law_lines.specs.Terms.{IsTerm}
use Rattle.law_lines.specs.Lines.{IsLine}

-- The bytes are the spelling of these two terms, with ` = ` between them.
pub record IsEquation (bytes : List ℕ) (left right : RawTerm) : Type 0 where
  pub first : IsTerm Kept Equation left
  pub second : IsTerm Kept Equation right
  pub text : joined (term_words left ++ codes "=" ∷ term_words right) ≡ bytes

abbrev pub EquationRead : List ℕ → Option (RawTerm × RawTerm) → Type 0
EquationRead bytes None = (left right : RawTerm) → IsEquation bytes left right → ⊥
EquationRead bytes (Some sides) = IsEquation bytes sides.0 sides.1

-- They are the spelling of a line of a pool.
pub record IsValuesLine (bytes sort : List ℕ) (values : List RawTerm) : Type 0 where
  pub line : IsLine Kept (Values sort values)
  pub text : line_spelling (Values sort values) ≡ bytes

abbrev pub ValuesLineRead : List ℕ → Option (List ℕ × List RawTerm) → Type 0
ValuesLineRead bytes None = (sort : List ℕ) (values : List RawTerm) → IsValuesLine bytes sort values → ⊥
ValuesLineRead bytes (Some found) = IsValuesLine bytes found.0 found.1
