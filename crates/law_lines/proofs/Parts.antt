-- A word or a space that was taken, as a part of the line that was read.
use Rattle.std.proofs.Common.{◌≡◌, ℕ, true, List, [], ◌∷◌, ◌++◌, ap, sym, ◌∙◌, decimal}
use Rattle.std.proofs.lemmas.Slice.Eq.{bytes_eq-Decides}
use Rattle.std.specs.Str.{bytes_eq}
use Rattle.law_lines.specs.Pieces.Piece.{space, word}
use Rattle.law_lines.specs.declared.token.Token.TheVariants as t
use Rattle.law_lines.specs.declared.want.Mark.{Mark}
use Rattle.law_lines.specs.declared.want.Want.TheVariants as w
use Rattle.law_lines.specs.Walk.{mark_text}
use Rattle.law_lines.specs.Reads.{Took, TookWord, Reads}
use Rattle.law_lines.proofs.Walks.{goes_on}

pub same_bytes : (xs ys : List ℕ) → bytes_eq xs ys ≡ true → xs ≡ ys
same_bytes xs ys h = (bytes_eq-Decides xs ys).0 h

pub gap_read : (old new : List ℕ) → Took 0 w.Gap old new t.Space → Reads w.Gap old new (32 ∷ [])
gap_read old new took = record { text = took.text; walked = goes_on 0 w.Gap old new space took.first took.taken }

pub fixed_read : (mark : Mark) (old new bytes : List ℕ) → TookWord 0 (w.Fixed mark) old new bytes → Reads (w.Fixed mark) old new (mark_text mark)
fixed_read mark old new bytes took = record {
  text = took.text ∙ ap (λ l. l ++ new) (same_bytes bytes (mark_text mark) took.taken);
  walked = goes_on 0 (w.Fixed mark) old new (word bytes) took.first took.taken;
}

pub number_read : (old new bytes : List ℕ) (n : ℕ) → TookWord 0 w.Number old new bytes → bytes ≡ decimal n → Reads w.Number old new (decimal n)
number_read old new bytes n took e = record {
  text = took.text ∙ ap (λ l. l ++ new) e;
  walked = goes_on 0 w.Number old new (word bytes) took.first took.taken;
}

pub name_read : (old new bytes text : List ℕ) → TookWord 0 w.Name old new bytes → text ≡ bytes → Reads w.Name old new text
name_read old new bytes text took e = record {
  text = took.text ∙ ap (λ l. l ++ new) (sym e);
  walked = goes_on 0 w.Name old new (word bytes) took.first took.taken;
}

pub ruleset parts = (gap_read, fixed_read, number_read, name_read)
