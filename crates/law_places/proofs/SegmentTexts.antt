-- A part of a line that is spelled is read.
use Rattle.std.proofs.Common.{◌≡◌, ℕ, true, List, [], ◌∷◌, ◌++◌, Some, refl, ap, sym, ◌∙◌, codes}
use Rattle.law_lines.specs.Pieces.{pieces}
use Rattle.law_lines.specs.declared.raw.RawTerm.{RawTerm}
use Rattle.law_lines.specs.declared.raw.RawLine.TheVariants.{Values}
use Rattle.law_lines.specs.declared.error.ReadKind.{ReadKind}
use Rattle.law_lines.specs.declared.stage.Stage.{Stage}
use Rattle.law_lines.specs.declared.stage.Version.TheVariants.{First}
use Rattle.law_lines.specs.declared.stage.Key.TheVariants.{Pool}
use Rattle.law_lines.specs.declared.want.Want.TheVariants as w
use Rattle.law_lines.specs.declared.want.Bounds.TheVariants.{Kept}
use Rattle.law_lines.specs.declared.want.Ending.TheVariants as e
use Rattle.law_lines.specs.declared.want.Mark.TheVariants.{Equals}
use Rattle.law_lines.specs.declared.want.Place.TheVariants as p
use Rattle.law_lines.specs.Spelling.{joined, term_words}
use Rattle.law_lines.specs.Walk.{walk}
use Rattle.law_lines.specs.Segments.{IsEquation, IsValuesLine}
use Rattle.law_lines.proofs.Again.{gap_on}
use Rattle.law_lines.proofs.AgainLines.{line_on, sides_on}

pub no_equation : (bytes : List ℕ) (kind : ReadKind) → walk 0 (w.Root p.Equation (e.Mark Equals) ∷ w.Gap ∷ w.Root p.Equation e.Line ∷ []) (pieces bytes) ≡ Some kind
    → (left right : RawTerm) → IsEquation bytes left right → ⊥
no_equation bytes kind f left right q =
    let words = term_words left ++ codes "=" ∷ term_words right in
    let n = sym (gap_on Kept 0 (w.Root p.Equation (e.Mark Equals) ∷ w.Gap ∷ w.Root p.Equation e.Line ∷ []) (joined words)) ∙ sides_on Kept left right q.first q.second in
    let m = ap (λ l. walk 0 (w.Root p.Equation (e.Mark Equals) ∷ w.Gap ∷ w.Root p.Equation e.Line ∷ []) (pieces l)) q.text in
    cc

-- where the values of a pool come
abbrev in_pool : Stage
in_pool = record { version = First; given = true; last = Some Pool }

pub no_values : (bytes : List ℕ) (kind : ReadKind) → walk 0 (w.Key in_pool ∷ []) (pieces bytes) ≡ Some kind → (sort : List ℕ) (values : List RawTerm) → IsValuesLine bytes sort values → ⊥
no_values bytes kind f sort values q =
    let n = line_on Kept in_pool (Values sort values) refl refl q.line in
    let m = ap (λ l. walk 0 (w.Key in_pool ∷ []) (pieces l)) q.text in
    cc
