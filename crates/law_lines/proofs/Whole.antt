-- A text is the spelling of one signature at most.
use Rattle.std.proofs.Common.{◌≡◌, ℕ, Bool, true, false, ◌||◌, ◌==◌, List, [], ◌∷◌, ◌++◌, Some, refl, ap, sym, subst, ◌∙◌, arith}
use Rattle.std.proofs.lemmas.Bool.Decides.{nat_tests}
use Rattle.std.proofs.lemmas.List.{append_assoc}
use Rattle.std.specs.List.{list_all, AllByRecursion}
use Rattle.law_lines.specs.declared.raw.RawLine.{RawLine}
use Rattle.law_lines.specs.declared.stage.Key.TheVariants as key
use Rattle.law_lines.specs.declared.stage.Stage.{Stage}
use Rattle.law_lines.specs.declared.want.Bounds.TheVariants.{Kept}
use Rattle.law_lines.specs.Spelling.{line_spelling, line_words, sig_spelling}
use Rattle.law_lines.specs.Lines.{IsLine}
use Rattle.law_lines.specs.Stages.{stage_after}
use Rattle.law_lines.specs.Signature.{IsRawSig}
use Rattle.law_lines.specs.Stages.{InOrder, start, stage_behind}
use Rattle.law_lines.specs.Laws.{OneText}
use Rattle.law_lines.specs.Faults.{is_printed}
use Rattle.law_lines.specs.Texts.{has_feed}
use Rattle.law_lines.proofs.Orders.{spelled_in_order}
use Rattle.law_lines.proofs.RowSteps.{both}
use Rattle.law_lines.proofs.OneLine.{one_line}
use Rattle.law_lines.proofs.CleanLines.{clean_joined, clean_words}

-- a line has no line feed in it
no_feed_byte : (b : ℕ) → is_printed b ≡ true → (b == 10) ≡ false
no_feed_byte b h = grind (arith, nat_tests)

pub no_feed : (bytes : List ℕ) → list_all is_printed bytes ≡ true → has_feed bytes ≡ false
no_feed [] h = refl
no_feed (b ∷ bytes) h = let q = both (is_printed b) (list_all is_printed bytes) h in ap (λ t. t || has_feed bytes) (no_feed_byte b q.0) ∙ no_feed bytes q.1

pub line_no_feed : (line : RawLine) → IsLine Kept line → has_feed (line_spelling line) ≡ false
line_no_feed line h = no_feed (line_spelling line) (clean_joined (line_words line) (clean_words line h)).0

-- the first line of a text is one
feed_is : (b : ℕ) (t : Bool) → (b == 10) ≡ t → b ≡ 10 → t ≡ true
feed_is b t e h = grind (arith, nat_tests)

or_none : (a b : Bool) → (a || b) ≡ false → (a ≡ false) × (b ≡ false)
or_none true b h = absurd cc
or_none false b h = (refl, h)

pub same_line : (xs ys us vs : List ℕ) → has_feed xs ≡ false → has_feed ys ≡ false → xs ++ 10 ∷ us ≡ ys ++ 10 ∷ vs → (xs ≡ ys) × (us ≡ vs)
same_line [] [] us vs h g e = (refl, cc)
same_line [] (y ∷ ys) us vs h g e = let q = or_none (y == 10) (has_feed ys) g in let f : y ≡ 10 = cc in absurd (let t = feed_is y (y == 10) refl f in cc)
same_line (x ∷ xs) [] us vs h g e = let q = or_none (x == 10) (has_feed xs) h in let f : x ≡ 10 = cc in absurd (let t = feed_is x (x == 10) refl f in cc)
same_line (x ∷ xs) (y ∷ ys) us vs h g e =
    let f : x ≡ y = cc in let k : xs ++ 10 ∷ us ≡ ys ++ 10 ∷ vs = cc in
    let r = same_line xs ys us vs (or_none (x == 10) (has_feed xs) h).1 (or_none (y == 10) (has_feed ys) g).1 k in (cc, r.1)

-- a whole text
abbrev pub IsWholeFrom : Stage → List RawLine → Type 0
IsWholeFrom stage lines = InOrder stage lines × ((stage_behind stage lines).last ≡ Some key.End) × AllByRecursion (IsLine Kept) lines

pub nothing_else : (bytes rest : List ℕ) → [] ≡ bytes ++ 10 ∷ rest → ⊥
nothing_else [] rest e = cc
nothing_else (b ∷ bytes) rest e = cc

line_of_text : (line : RawLine) (lines : List RawLine) → sig_spelling (line ∷ lines) ≡ line_spelling line ++ 10 ∷ sig_spelling lines
line_of_text line lines = append_assoc (line_spelling line) (10 ∷ []) (sig_spelling lines)

pub feed_in : (bytes rest : List ℕ) → has_feed (bytes ++ 10 ∷ rest) ≡ true
feed_in [] rest = refl
feed_in (b ∷ bytes) rest = or_second (b == 10) (has_feed (bytes ++ 10 ∷ rest)) (feed_in bytes rest)
  where
    or_second : (a b : Bool) → b ≡ true → (a || b) ≡ true
    or_second true b h = refl
    or_second false b h = h

pub whole_of : (lines : List RawLine) → IsRawSig lines → IsWholeFrom start lines
whole_of lines sig = let w = spelled_in_order lines sig.order in (w.0, w.1, sig.each)

-- lines by lines
pub one_lines : (stage : Stage) (lines others : List RawLine) → IsWholeFrom stage lines → IsWholeFrom stage others → sig_spelling lines ≡ sig_spelling others → lines ≡ others
one_lines stage [] [] h g e = refl
one_lines stage [] (y ∷ others) h g e = absurd (nothing_else (line_spelling y) (sig_spelling others) (e ∙ line_of_text y others))
one_lines stage (x ∷ lines) [] h g e = absurd (nothing_else (line_spelling x) (sig_spelling lines) (sym e ∙ line_of_text x lines))
one_lines stage (x ∷ lines) (y ∷ others) h g e =
    let q = same_line (line_spelling x) (line_spelling y) (sig_spelling lines) (sig_spelling others) (line_no_feed x h.2.0) (line_no_feed y g.2.0) (sym (line_of_text x lines) ∙ e ∙ line_of_text y others) in
    let f = one_line stage.version x y h.0.1 g.0.1 h.2.0 g.2.0 q.0 in
    let s = ap (stage_after stage) (sym f) in
    ap (λ t. t ∷ lines) f ∙ ap (λ ts. y ∷ ts)
    (one_lines (stage_after stage y) lines others
    (subst (λ t. InOrder t lines) (sym s) h.0.2, subst (λ t. (stage_behind t lines).last ≡ Some key.End) (sym s) h.1, h.2.1) (g.0.2, g.1, g.2.1) q.1)

pub one_text_law : OneText
one_text_law lines others h g e = one_lines start lines others (whole_of lines h) (whole_of others g) e
