-- Whatever is taken without the bounds begins what the grammar without them spells: lines and terms.
use Rattle.std.proofs.Common.{◌≡◌, ℕ, true, List, [], ◌∷◌, ◌++◌, Option, Some, None, refl, ap, sym, subst, ◌∙◌}
use Rattle.std.proofs.lemmas.List.{append-nil}
use Rattle.std.specs.List.{AllByRecursion}
use Rattle.law_lines.specs.Pieces.{Piece, pieces}
use Rattle.law_lines.specs.Pieces.Piece.{space, opening, closing, word}
use Rattle.law_lines.specs.declared.raw.RawTerm.{RawTerm}
use Rattle.law_lines.specs.declared.raw.RawLine.{RawLine}
use Rattle.law_lines.specs.declared.stage.Key.{Key}
use Rattle.law_lines.specs.declared.stage.Stage.{Stage}
use Rattle.law_lines.specs.declared.want.Want.TheVariants as w
use Rattle.law_lines.specs.declared.want.Bounds.TheVariants.{Free}
use Rattle.law_lines.specs.declared.want.Place.TheVariants as p
use Rattle.law_lines.specs.declared.want.Ending.TheVariants as e
use Rattle.law_lines.specs.Spelling.{line_spelling, term_spelling}
use Rattle.law_lines.specs.Terms.{IsTerm}
use Rattle.law_lines.specs.Lines.{IsLine}
use Rattle.law_lines.specs.Stages.{IsOfVersion, allows, line_key}
use Rattle.law_lines.specs.Walk.{allows_found, key_of, line_wants, wants_found}
use Rattle.law_lines.proofs.Again.{is_solid, solid_first}
use Rattle.law_places.proofs.Begins.{Given, IsPiece, Taken, fills, given_apart, said_free, term_free}
use Rattle.law_places.proofs.Closes.{StartsApart, Wanted, piece_left}
use Rattle.law_places.proofs.LineSteps.{key_is}
use Rattle.law_places.proofs.Said.{line_plain, line_said}

-- A line that begins with these pieces may come at the stage.
pub record FreeLine (stage : Stage) (ps : List Piece) : Type 0 where
  pub line : RawLine
  pub allowed : allows stage (line_key line) ≡ true
  pub form : IsOfVersion stage.version line
  pub spelled : IsLine Free line
  pub more : List Piece
  pub begins : pieces (line_spelling line) ≡ ps ++ more

key_line : (o : Option Key) (stage : Stage) (x : List ℕ) (ps : List Piece) → key_of x ≡ o → allows_found stage o ≡ true → is_solid x ≡ true → Wanted Free 0 (wants_found stage o ++ []) → StartsApart (wants_found stage o ++ [])
    → Taken Free 0 (wants_found stage o ++ []) ps → AllByRecursion IsPiece ps → FreeLine stage (word x ∷ ps)
key_line None stage x ps e a is h s t each = absurd cc
key_line (Some k) stage x ps e a is h s t each =
    let f = fills ps 0 (line_wants stage.version k ++ []) h t each in
    let y = line_said Free stage.version k f.bytes (said_free true (line_wants stage.version k) (line_plain stage.version k) f.bytes (subst (λ ws. Given ws f.bytes) (append-nil (line_wants stage.version k)) f.given)) in
    record {
      line = y.line;
      allowed = ap (allows stage) y.begun ∙ a;
      form = y.form;
      spelled = y.spelled;
      more = f.more;
      begins = ap pieces (y.text ∙ ap (λ t. t ++ f.bytes) (sym (key_is x k e)))
          ∙ solid_first x f.bytes is (given_apart (line_wants stage.version k ++ []) 0 f.bytes h s f.given) ∙ ap (λ l. word x ∷ l) f.begins;
    }

pub line_begins : (stage : Stage) (piece : Piece) (ps : List Piece) → Wanted Free 0 (w.Key stage ∷ []) → Taken Free 0 (w.Key stage ∷ []) (piece ∷ ps) → AllByRecursion IsPiece (piece ∷ ps) → FreeLine stage (piece ∷ ps)
line_begins stage space ps h t is = let k = t.0 in absurd cc
line_begins stage opening ps h t is = let k = t.0 in absurd cc
line_begins stage closing ps h t is = let k = t.0 in absurd cc
line_begins stage (word x) ps h t is =
    let q = piece_left Free 0 (w.Key stage) [] (word x) h t.0 in key_line (key_of x) stage x ps refl t.0 is.0 q.0 q.1 t.1 is.1

-- a term of equations that begins with these pieces
pub record FreeTerm (ps : List Piece) : Type 0 where
  pub term : RawTerm
  pub is_term : IsTerm Free p.Equation term
  pub more : List Piece
  pub begins : pieces (term_spelling term) ≡ ps ++ more

pub term_begins : (ps : List Piece) → Wanted Free 0 (w.Root p.Equation e.Line ∷ []) → Taken Free 0 (w.Root p.Equation e.Line ∷ []) ps → AllByRecursion IsPiece ps → FreeTerm ps
term_begins ps h t is =
    let f = fills ps 0 (w.Root p.Equation e.Line ∷ []) h t is in let g = f.given in
    record {
      term = g.0;
      is_term = term_free p.Equation g.0 g.1;
      more = f.more;
      begins = ap pieces (sym (g.3 ∙ ap (λ t. term_spelling g.0 ++ t) g.4 ∙ append-nil (term_spelling g.0))) ∙ f.begins;
    }
