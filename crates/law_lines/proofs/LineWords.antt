-- What holds of each word of a line, where it holds of names, numbers, fixed words and terms.
use Rattle.std.proofs.Common.{◌≡◌, ℕ, ◌<◌, ◌^◌, Bool, true, ◌&&◌, List, [], ◌∷◌, ◌++◌, map, refl, decimal, codes, length, nat_lt}
use Rattle.std.specs.List.{list_all, AllByRecursion}
use Rattle.law_lines.specs.Pieces.{is_plain}
use Rattle.law_lines.specs.declared.raw.RawTerm.{RawTerm}
use Rattle.law_lines.specs.declared.raw.RawLine.{RawLine}
use Rattle.law_lines.specs.declared.raw.RawLine.TheVariants as l
use Rattle.law_lines.specs.declared.want.Bounds.TheVariants.{Kept}
use Rattle.law_lines.specs.declared.want.Place.{Place}
use Rattle.law_lines.specs.declared.want.Place.TheVariants as p
use Rattle.law_lines.specs.Spelling.{arg_spelling, line_words, term_words}
use Rattle.law_lines.specs.Terms.{IsTerm, is_name_in}
use Rattle.law_lines.specs.Lines.{AreValues, IsLine}
use Rattle.law_lines.proofs.RowSteps.{both}
use Rattle.law_lines.proofs.Clean.{is_graphic}

-- printed bytes, at least one, and no space or bracket
abbrev pub is_fixed : List ℕ → Bool
is_fixed bytes = nat_lt 0 (length bytes) && (list_all is_graphic bytes && list_all is_plain bytes)

pub record Covers (P : List ℕ → Type 0) : Type 0 where
  pub text : (bytes : List ℕ) → is_fixed bytes ≡ true → P bytes
  pub number : (n : ℕ) → n < 2 ^ 63 → P (decimal n)
  pub name : (name : List ℕ) → is_name_in Kept name ≡ true → P name
  pub arg : (term : RawTerm) → IsTerm Kept p.Value term → P (arg_spelling term)
  pub term : (place : Place) (term : RawTerm) → IsTerm Kept place term → AllByRecursion P (term_words term)

names_hold : (P : List ℕ → Type 0) (c : Covers P) (names : List (List ℕ)) → list_all (is_name_in Kept) names ≡ true → AllByRecursion P names
names_hold P c [] h = tt
names_hold P c (x ∷ names) h = let q = both (is_name_in Kept x) (list_all (is_name_in Kept) names) h in (c.name x q.0, names_hold P c names q.1)

values_hold : (P : List ℕ → Type 0) (c : Covers P) (terms : List RawTerm) → AreValues Kept terms → AllByRecursion P (map arg_spelling terms)
values_hold P c [] h = tt
values_hold P c (x ∷ terms) h = (c.arg x h.0, values_hold P c terms h.1)

all_append : (P : List ℕ → Type 0) (xs ys : List (List ℕ)) → AllByRecursion P xs → AllByRecursion P ys → AllByRecursion P (xs ++ ys)
all_append P [] ys h g = g
all_append P (x ∷ xs) ys h g = (h.0, all_append P xs ys h.1 g)

pub words_hold : (P : List ℕ → Type 0) (c : Covers P) (line : RawLine) → IsLine Kept line → AllByRecursion P (line_words line)
words_hold P c l.Head h = (c.text (codes "signature") refl, (c.text (codes "1") refl, tt))
words_hold P c l.Head2 h = (c.text (codes "signature") refl, (c.text (codes "2") refl, tt))
words_hold P c l.Head3 h = (c.text (codes "signature") refl, (c.text (codes "3") refl, tt))
words_hold P c (l.Vars n) h = (c.text (codes "vars") refl, (c.number n h, tt))
words_hold P c (l.Size n) h = (c.text (codes "size") refl, (c.number n h, tt))
words_hold P c (l.Width n) h = (c.text (codes "width") refl, (c.number n h, tt))
words_hold P c (l.Budget n) h = (c.text (codes "budget") refl, (c.number n h, tt))
words_hold P c (l.Pairs n) h = (c.text (codes "pairs") refl, (c.number n h, tt))
words_hold P c l.PoolsGiven h = (c.text (codes "pools") refl, (c.text (codes "given") refl, tt))
words_hold P c (l.PoolsSeed seed height count) h =
    (c.text (codes "pools") refl, (c.text (codes "seed") refl, (c.number seed h.0, (c.text (codes "height") refl, (c.number height h.1, (c.text (codes "count") refl, (c.number count h.2, tt)))))))
words_hold P c (l.SortLine name) h = (c.text (codes "sort") refl, (c.name name h, tt))
words_hold P c (l.SortLine2 name vars width) h = (c.text (codes "sort") refl, (c.name name h.0, (c.number vars h.1, (c.number width h.2, tt))))
words_hold P c (l.ConLine name args) h = (c.text (codes "con") refl, (c.name name h.0, names_hold P c args h.1.names))
words_hold P c (l.ConLine3 weight name args) h = (c.text (codes "con") refl, (c.number weight h.0, (c.name name h.1, names_hold P c args h.2.names)))
words_hold P c (l.FunLine name args result) h =
    (c.text (codes "fun") refl, (c.name name h.0, all_append P args (codes "->" ∷ result ∷ []) (names_hold P c args h.1.names) (c.text (codes "->") refl, (c.name result h.2, tt))))
words_hold P c (l.FunLine3 weight name args result) h =
    (c.text (codes "fun") refl, (c.number weight h.0, (c.name name h.1, all_append P args (codes "->" ∷ result ∷ []) (names_hold P c args h.2.names) (c.text (codes "->") refl, (c.name result h.3, tt)))))
words_hold P c (l.MatchLine n) h = (c.text (codes "match") refl, (c.number n h, tt))
words_hold P c (l.BodyLine body) h = (c.text (codes "body") refl, (c.text (codes "=") refl, c.term p.Body body h))
words_hold P c (l.CaseLine con body) h = (c.text (codes "case") refl, (c.name con h.0, (c.text (codes "=") refl, c.term p.Body body h.1)))
words_hold P c (l.Explore names) h = (c.text (codes "explore") refl, names_hold P c names h)
words_hold P c (l.Background left right) h =
    (c.text (codes "background") refl, all_append P (term_words left) (codes "=" ∷ term_words right) (c.term p.Equation left h.0) (c.text (codes "=") refl, c.term p.Equation right h.1))
words_hold P c l.Pool h = (c.text (codes "pool") refl, tt)
words_hold P c (l.Values sort values) h = (c.text (codes "values") refl, (c.name sort h.0, values_hold P c values h.2))
words_hold P c l.End h = (c.text (codes "end") refl, tt)
