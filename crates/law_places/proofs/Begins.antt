-- Whatever is taken without the bounds begins what the grammar without them spells: what is wanted, as texts.
use Rattle.std.proofs.Common.{◌≡◌, ℕ, ◌+◌, ◌<◌, ◌^◌, Bool, true, false, ◌&&◌, ◌||◌, List, [], ◌∷◌, ◌++◌, refl, ap, sym, subst, ◌∙◌, arith, map, length, codes, decimal, nat_lt}
use Rattle.std.proofs.lemmas.Bool.Decides.{nat_tests}
use Rattle.std.proofs.lemmas.List.{append_assoc, append-nil, length-map}
use Rattle.std.specs.List.{list_all, AllByRecursion}
use Rattle.std.specs.Str.{bytes_eq}
use Rattle.law_lines.specs.Words.{is_word_of_letters, number_below}
use Rattle.law_lines.specs.Pieces.{Piece, piece_text, pieces}
use Rattle.law_lines.specs.Pieces.Piece.{space, opening, closing, word}
use Rattle.law_lines.proofs.FirstPieces.{begins_apart}
use Rattle.law_lines.specs.declared.raw.RawHead.TheVariants.{Name}
use Rattle.law_lines.specs.declared.raw.RawTerm.{RawTerm}
use Rattle.law_lines.specs.declared.raw.RawTerm.TheOpen.{RawTerm-F}
use Rattle.law_lines.specs.declared.raw.RawTerm.TheFolds.{fold-roll-RawTerm}
use Rattle.law_lines.specs.declared.raw.RawTerm.TheViews.{roll-RawTerm}
use Rattle.law_lines.specs.declared.want.Want.{Want}
use Rattle.law_lines.specs.declared.want.Want.TheVariants as w
use Rattle.law_lines.specs.declared.want.Bounds.{Bounds}
use Rattle.law_lines.specs.declared.want.Bounds.TheVariants.{Free}
use Rattle.law_lines.specs.declared.want.Place.{Place}
use Rattle.law_lines.specs.declared.want.Place.TheVariants as p
use Rattle.law_lines.specs.declared.want.Row.{Row}
use Rattle.law_lines.specs.declared.want.Row.TheVariants as r
use Rattle.law_lines.specs.declared.want.Ending.{Ending}
use Rattle.law_lines.specs.declared.want.Ending.TheVariants as e
use Rattle.law_lines.specs.Spelling.{arg_spelling, arg_step, bracketed, spaced, term_spelling}
use Rattle.law_lines.specs.Terms.{IsTerm, is_name_in, node_fits, nodes_fit}
use Rattle.law_lines.specs.Walk.{behind, is_atom, is_item, is_mark, is_version, item_moved, item_place, mark_text, may_come, moved, pools_wants, root_moved, seed_wants, takes}
use Rattle.law_lines.specs.Rows.{IsTermRow, closer, is_enough}
use Rattle.law_lines.proofs.Again.{and_true, apart_close, apart_none, apart_space, is_solid, solid_first}
use Rattle.law_lines.proofs.AgainTerms.{counted, spaced_is}
use Rattle.law_places.proofs.Closes.{Apart, Behind, StartsApart, Wanted, piece_left}
use Rattle.law_places.proofs.Found.{Atom, atom_found}
use Rattle.law_places.proofs.LinesFound.{number_by}
use Rattle.law_lines.proofs.Parts.{same_bytes}
use Rattle.law_places.proofs.RowNames.{term_is}
use Rattle.law_places.proofs.Said.{Plain, PoolsLine, RowAt, RowSaid, Said, pools_line}
use Rattle.law_places.proofs.LineSteps.{some_values}
use Rattle.law_lines.specs.Lines.{AreSorts, AreValues}
use Rattle.law_lines.specs.Rows.{IsNameRow}
use Rattle.law_lines.proofs.RowSteps.{both, leaf_text}

-- Terms of the grammar without bounds, as words.
abbrev pub TermWord : Place → List ℕ → Type 0
TermWord place bytes = (term : RawTerm) × (nodes_fit Free place term ≡ true) × (arg_spelling term ≡ bytes)

leaf_word : (place : Place) (bytes : List ℕ) → Atom Free place bytes → TermWord place bytes
leaf_word place bytes a = (
  roll-RawTerm (record { head = a.0; args = [] }),
  fold-roll-RawTerm Bool (node_fits Free place) (record { head = a.0; args = [] }) ∙ ap (λ b. b && true) a.1.fits,
  leaf_text a.0 ∙ a.1.text,
)

pub record Terms (place : Place) (words : List (List ℕ)) : Type 0 where
  pub terms : List RawTerm
  pub each : list_all (λ b. b) (map (nodes_fit Free place) terms) ≡ true
  pub same : map arg_spelling terms ≡ words

named_fits : (place : Place) (name : List ℕ) (terms : List RawTerm) → is_name_in Free name ≡ true → list_all (λ b. b) (map (nodes_fit Free place) terms) ≡ true
    → nodes_fit Free place (roll-RawTerm (record { head = Name name; args = terms })) ≡ true
named_fits place name terms named each =
    fold-roll-RawTerm Bool (node_fits Free place) (record { head = Name name; args = terms }) ∙ and_true (is_name_in Free name) (list_all (λ b. b) (map (nodes_fit Free place) terms)) named each

-- a word of a row
abbrev pub Fit : Row → List ℕ → Type 0
Fit r.Sorts bytes = is_name_in Free bytes ≡ true
Fit r.Names bytes = is_name_in Free bytes ≡ true
Fit (r.Args place) bytes = TermWord place bytes
Fit r.Values bytes = TermWord p.Value bytes

word_fits : (row : Row) (bytes : List ℕ) → is_item Free row bytes ≡ true → Fit row bytes
word_fits r.Sorts bytes h = h
word_fits r.Names bytes h = h
word_fits (r.Args place) bytes h = leaf_word place bytes (atom_found Free place bytes h)
word_fits r.Values bytes h = leaf_word p.Value bytes (atom_found Free p.Value bytes h)

term_word : (row : Row) (bytes : List ℕ) → IsTermRow row 1 → Fit row bytes → TermWord (item_place row) bytes
term_word r.Sorts bytes is h = absurd is
term_word r.Names bytes is h = absurd is
term_word (r.Args place) bytes is h = h
term_word r.Values bytes is h = h

pub terms_of : (row : Row) (words : List (List ℕ)) → IsTermRow row 1 → AllByRecursion (Fit row) words → Terms (item_place row) words
terms_of row [] is h = record { terms = []; each = refl; same = refl }
terms_of row (x ∷ words) is h =
    let t = term_word row x is h.0 in let ts = terms_of row words is h.1 in
    record {
      terms = t.0 ∷ ts.terms;
      each = and_true (nodes_fit Free (item_place row) t.0) (list_all (λ b. b) (map (nodes_fit Free (item_place row)) ts.terms)) t.1 ts.each;
      same = ap (λ x. x ∷ map arg_spelling ts.terms) t.2 ∙ ap (λ l. x ∷ l) ts.same;
    }

-- The words of a row, up to its end.
pub record Words (row : Row) (count : ℕ) (ending : Ending) (bytes more : List ℕ) : Type 0 where
  pub words : List (List ℕ)
  pub each : AllByRecursion (Fit row) words
  pub some : is_enough ending row (count + length words)
  pub text : bytes ≡ spaced words ++ (closer ending ++ more)

-- The bytes are what is wanted, in the grammar without bounds; of a whole line nothing is said here.
abbrev pub Given : List Want → List ℕ → Type 0
Given [] bytes = bytes ≡ []
Given (w.Key stage ∷ rest) bytes = Unit {0}
Given (w.Version ∷ rest) bytes = (number : List ℕ) × (is_version number ≡ true) × (more : List ℕ) × (bytes ≡ number ++ more) × Given rest more
Given (w.Pools ∷ rest) bytes = PoolsLine Free bytes
Given (w.Gap ∷ rest) bytes = (more : List ℕ) × (bytes ≡ 32 ∷ more) × Given rest more
Given (w.Fixed mark ∷ rest) bytes = (more : List ℕ) × (bytes ≡ mark_text mark ++ more) × Given rest more
Given (w.Number ∷ rest) bytes = (n : ℕ) × (n < 2 ^ 63) × (more : List ℕ) × (bytes ≡ decimal n ++ more) × Given rest more
Given (w.Name ∷ rest) bytes = (name : List ℕ) × (is_name_in Free name ≡ true) × (more : List ℕ) × (bytes ≡ name ++ more) × Given rest more
Given (w.Head ∷ rest) bytes = (name : List ℕ) × (is_name_in Free name ≡ true) × (more : List ℕ) × (bytes ≡ name ++ more) × Given rest more
Given (w.Root place ending ∷ rest) bytes =
    (term : RawTerm) × (nodes_fit Free place term ≡ true) × (more : List ℕ) × (bytes ≡ term_spelling term ++ (closer ending ++ more)) × Given rest more
Given (w.Row row level count ending ∷ rest) bytes = (more : List ℕ) × Words row count ending bytes more × Given rest more
Given (w.Item row level count ending ∷ rest) bytes = (more : List ℕ) × Words row count ending (32 ∷ bytes) more × Given rest more

-- A piece before what is wanted behind it.
space_back : (n : ℕ) (want : Want) (rest : List Want) (bytes : List ℕ) → takes Free n want space ≡ true → Given (moved n want rest space).wants bytes → Given (want ∷ rest) (32 ∷ bytes)
space_back n w.Gap rest bytes t g = (bytes, refl, g)
space_back n (w.Row row level count ending) rest bytes t g = g
space_back n (w.Item row level count ending) rest bytes t g = absurd cc
space_back n want rest bytes t g = absurd cc

-- one more word of a row
more_words : (row : Row) (count : ℕ) (ending : Ending) (x bytes more : List ℕ) → Fit row x → Words row (count + 1) ending bytes more → Words row count ending (32 ∷ (x ++ bytes)) more
more_words row count ending x bytes more fit ws = record {
  words = x ∷ ws.words;
  each = (fit, ws.each);
  some = subst (is_enough ending row) (counted count (length ws.words)) ws.some;
  text = ap (λ t. 32 ∷ (x ++ t)) ws.text ∙ sym (spaced_is x ws.words (closer ending ++ more));
}

bracket_text : (name : List ℕ) (words : List (List ℕ)) (bytes : List ℕ) → 0 < 0 + length words → 40 ∷ (name ++ (spaced words ++ 41 ∷ bytes)) ≡ bracketed name words ++ bytes
bracket_text name [] bytes h = absurd (omega arith)
bracket_text name (x ∷ words) bytes h =
    ap (λ t. 40 ∷ (name ++ t)) (sym (append_assoc (spaced (x ∷ words)) (41 ∷ []) bytes)) ∙ ap (λ t. 40 ∷ t) (sym (append_assoc name (spaced (x ∷ words) ++ 41 ∷ []) bytes))

-- a term in brackets
bracket_word : (place : Place) (name : List ℕ) (words : List (List ℕ)) → is_name_in Free name ≡ true → AllByRecursion (Fit (r.Args place)) words → TermWord place (bracketed name words)
bracket_word place name words named each =
    let ts = terms_of (r.Args place) words tt each in (
      roll-RawTerm (record { head = Name name; args = ts.terms }),
      named_fits place name ts.terms named ts.each,
      fold-roll-RawTerm (List ℕ) arg_step (record { head = Name name; args = ts.terms }) ∙ ap (bracketed name) ts.same,
    )

bracket_fits : (row : Row) (name : List ℕ) (words : List (List ℕ)) → IsTermRow row 1 → is_name_in Free name ≡ true → AllByRecursion (Fit (r.Args (item_place row))) words → Fit row (bracketed name words)
bracket_fits r.Sorts name words is named each = absurd is
bracket_fits r.Names name words is named each = absurd is
bracket_fits (r.Args place) name words is named each = bracket_word place name words named each
bracket_fits r.Values name words is named each = bracket_word p.Value name words named each

opened_row : (n : ℕ) (row : Row) (level count : ℕ) (ending : Ending) → takes Free n (w.Item row level count ending) opening ≡ true → IsTermRow row 1
opened_row n r.Sorts level count ending t = absurd cc
opened_row n r.Names level count ending t = absurd cc
opened_row n (r.Args place) level count ending t = tt
opened_row n r.Values level count ending t = refl

record Opened (row : Row) (count : ℕ) (ending : Ending) (rest : List Want) (bytes : List ℕ) : Type 0 where
  name : List ℕ
  named : is_name_in Free name ≡ true
  inner : List ℕ
  text : bytes ≡ name ++ inner
  mid : List ℕ
  args : Words (r.Args (item_place row)) 0 e.Bracket inner mid
  more : List ℕ
  others : Words row (count + 1) ending mid more
  left : Given rest more

opened_back : (row : Row) (level count : ℕ) (ending : Ending) (rest : List Want) (bytes : List ℕ) → IsTermRow row 1 → Opened row count ending rest bytes → Given (w.Item row level count ending ∷ rest) (40 ∷ bytes)
opened_back row level count ending rest bytes is o =
    let x = bracketed o.name o.args.words in
    let text : 40 ∷ bytes ≡ x ++ o.mid = ap (λ t. 40 ∷ t) (o.text ∙ ap (λ t. o.name ++ t) o.args.text) ∙ bracket_text o.name o.args.words o.mid o.args.some in (
      o.more,
      subst (λ t. Words row count ending (32 ∷ t) o.more) (sym text) (more_words row count ending x o.mid o.more (bracket_fits row o.name o.args.words is o.named o.args.each) o.others),
      o.left,
    )

opening_back : (n : ℕ) (want : Want) (rest : List Want) (bytes : List ℕ) → takes Free n want opening ≡ true → Given (moved n want rest opening).wants bytes → Given (want ∷ rest) (40 ∷ bytes)
opening_back n (w.Item row level count ending) rest bytes t g =
    opened_back row level count ending rest bytes (opened_row n row level count ending t)
    (record { name = g.0; named = g.1; inner = g.2; text = g.3; mid = g.4.0; args = g.4.1; more = g.4.2.0; others = g.4.2.1; left = g.4.2.2 })
opening_back n want rest bytes t g = absurd cc

closing_back : (n : ℕ) (want : Want) (rest : List Want) (bytes : List ℕ) → takes Free n want closing ≡ true → Given (moved n want rest closing).wants bytes → Given (want ∷ rest) (41 ∷ bytes)
closing_back n (w.Row row level count e.Bracket) rest bytes t g = (bytes, record { words = []; each = tt; some = positive count t; text = refl }, g)
  where
    positive : (n : ℕ) → nat_lt 0 n ≡ true → 0 < n + 0
    positive n h = grind (arith, nat_tests)
closing_back n (w.Row row level count e.Line) rest bytes t g = absurd cc
closing_back n (w.Row row level count (e.Mark mark)) rest bytes t g = absurd cc
closing_back n (w.Item row level count ending) rest bytes t g = absurd cc
closing_back n want rest bytes t g = absurd cc

-- words of a row, or the fixed word behind it
item_back : (t : Bool) (n : ℕ) (row : Row) (level count : ℕ) (ending : Ending) (rest : List Want) (x bytes : List ℕ) → is_mark ending x ≡ t → (t || (may_come Free n row level count && is_item Free row x)) ≡ true
    → Given (item_moved t n row level count ending rest).wants bytes → Given (w.Item row level count ending ∷ rest) (x ++ bytes)
item_back true n row level count e.Line rest x bytes q h g = absurd cc
item_back true n row level count e.Bracket rest x bytes q h g = absurd cc
item_back true n row level count (e.Mark mark) rest x bytes q h g =
    (bytes, record { words = []; each = tt; some = tt; text = ap (λ t. 32 ∷ (t ++ bytes)) (same_bytes x (mark_text mark) q) }, g)
item_back false n row level count ending rest x bytes q h g =
    (g.0, more_words row count ending x bytes g.0 (word_fits row x (both (may_come Free n row level count) (is_item Free row x) h).1) g.1, g.2)

-- behind a term that is an atom
behind_given : (ending : Ending) (rest : List Want) (bytes : List ℕ) → (ending ≡ e.Bracket → ⊥) → Given (behind ending rest) bytes → (more : List ℕ) × (bytes ≡ closer ending ++ more) × Given rest more
behind_given e.Line rest bytes never g = (bytes, refl, g)
behind_given e.Bracket rest bytes never g = absurd (never refl)
behind_given (e.Mark mark) rest bytes never g = (g.2.0, g.1 ∙ ap (λ t. 32 ∷ t) g.2.1, g.2.2)

root_text : (x : List ℕ) (words : List (List ℕ)) (bytes tail spelling : List ℕ) → bytes ≡ spaced words ++ tail → spelling ≡ x ++ spaced words → x ++ bytes ≡ spelling ++ tail
root_text x words bytes tail spelling h s = ap (λ t. x ++ t) h ∙ sym (append_assoc x (spaced words) tail) ∙ ap (λ t. t ++ tail) (sym s)

root_back : (t : Bool) (place : Place) (ending : Ending) (rest : List Want) (x bytes : List ℕ) → is_word_of_letters x ≡ t → is_atom Free place x ≡ true → (ending ≡ e.Bracket → ⊥)
    → Given (root_moved t place ending rest).wants bytes → Given (w.Root place ending ∷ rest) (x ++ bytes)
root_back true place ending rest x bytes q h never g =
    let ts = terms_of (r.Args place) g.1.words tt g.1.each in
    let layer : RawTerm-F RawTerm = record { head = Name x; args = ts.terms } in (
      roll-RawTerm layer,
      named_fits place x ts.terms (and_true (is_word_of_letters x) true q refl) ts.each,
      g.0,
      root_text x g.1.words bytes (closer ending ++ g.0) (term_spelling (roll-RawTerm layer)) g.1.text (term_is layer ∙ ap (λ t. x ++ spaced t) ts.same),
      g.2,
    )
root_back false place ending rest x bytes q h never g =
    let a = atom_found Free place x h in
    let layer : RawTerm-F RawTerm = record { head = a.0; args = [] } in
    let b = behind_given ending rest bytes never g in (
      roll-RawTerm layer,
      fold-roll-RawTerm Bool (node_fits Free place) layer ∙ ap (λ b. b && true) a.1.fits,
      b.0,
      root_text x [] bytes (closer ending ++ b.0) (term_spelling (roll-RawTerm layer)) b.1 (term_is layer ∙ ap (λ t. t ++ []) a.1.text),
      b.2,
    )

-- What is given behind a key.
pub term_free : (place : Place) (term : RawTerm) → nodes_fit Free place term ≡ true → IsTerm Free place term
term_free place term h = record { nodes = h; size = refl; deep = refl }

names_free : (row : Row) (words : List (List ℕ)) → IsNameRow row → AllByRecursion (Fit row) words → list_all (is_name_in Free) words ≡ true
names_free row [] is h = refl
names_free row (x ∷ words) is h = and_true (is_name_in Free x) (list_all (is_name_in Free) words) (named row is h.0) (names_free row words is h.1)
  where
    named : (row : Row) → IsNameRow row → Fit row x → is_name_in Free x ≡ true
    named r.Sorts is h = h
    named r.Names is h = h
    named (r.Args place) is h = absurd is
    named r.Values is h = absurd is

sorts_free : (words : List (List ℕ)) → AllByRecursion (Fit r.Sorts) words → AreSorts Free words
sorts_free words h = record { names = names_free r.Sorts words tt h; few = refl }

values_free : (terms : List RawTerm) → list_all (λ b. b) (map (nodes_fit Free p.Value) terms) ≡ true → AreValues Free terms
values_free [] h = tt
values_free (x ∷ terms) h = let q = both (nodes_fit Free p.Value x) (list_all (λ b. b) (map (nodes_fit Free p.Value) terms)) h in (term_free p.Value x q.0, values_free terms q.1)

some_terms : (terms : List RawTerm) (words : List (List ℕ)) → map arg_spelling terms ≡ words → nat_lt 0 (0 + length words) ≡ true → 0 < length terms
some_terms terms words same h = let n = some_values (0 + length words) h in let m = length-map terms arg_spelling in let k = ap length same in omega arith

row_said : (row : Row) (level count : ℕ) (ending : Ending) (bytes more : List ℕ) → RowAt row level ending → count ≡ 0 → Words row count ending bytes more → RowSaid Free row ending bytes more
row_said r.Sorts level count ending bytes more at none ws = record { words = ws.words; is = sorts_free ws.words ws.each; text = ws.text }
row_said r.Names level count ending bytes more at none ws = record { words = ws.words; is = names_free r.Names ws.words tt ws.each; text = ws.text }
row_said (r.Args place) level count ending bytes more at none ws = absurd at
row_said r.Values level count e.Bracket bytes more at none ws = absurd at
row_said r.Values level count (e.Mark mark) bytes more at none ws = absurd at
row_said r.Values level count e.Line bytes more at none ws =
    let ts = terms_of r.Values ws.words refl ws.each in
    record {
      words = ws.words;
      is = record { terms = ts.terms; each = values_free ts.terms ts.each; some = some_terms ts.terms ws.words ts.same (subst (λ n. nat_lt 0 (n + length ws.words) ≡ true) none ws.some); same = ts.same };
      text = ws.text;
    }

pub said_free : (b : Bool) (wants : List Want) → Plain b wants → (bytes : List ℕ) → Given wants bytes → Said Free wants bytes
said_free b [] is bytes g = g
said_free b (w.Key stage ∷ rest) is bytes g = absurd is
said_free b (w.Head ∷ rest) is bytes g = absurd is
said_free b (w.Item row level count ending ∷ rest) is bytes g = absurd is
said_free b (w.Pools ∷ rest) is bytes g = g
said_free b (w.Gap ∷ rest) is bytes g = (g.0, g.1, said_free b rest is g.0 g.2)
said_free b (w.Version ∷ rest) is bytes g = (g.0, g.1, g.2, g.3, said_free b rest is g.2 g.4)
said_free b (w.Fixed mark ∷ rest) is bytes g = (g.0, g.1, said_free b rest is g.0 g.2)
said_free b (w.Number ∷ rest) is bytes g = (g.0, g.1, g.2, g.3, said_free b rest is g.2 g.4)
said_free b (w.Name ∷ rest) is bytes g = (g.0, g.1, g.2, g.3, said_free b rest is g.2 g.4)
said_free b (w.Root place ending ∷ rest) is bytes g = (g.0, term_free place g.0 g.1, g.2, g.3, said_free b rest is.1 g.2 g.4)
said_free b (w.Row row level count ending ∷ rest) is bytes g = (g.0, row_said row level count ending bytes g.0 is.0 is.1 g.1, said_free b rest is.3 g.0 g.2)

pools_back : (given : Bool) (x bytes : List ℕ) → bytes_eq x (codes "given") ≡ given → (given || bytes_eq x (codes "seed")) ≡ true → Given (pools_wants given) bytes → PoolsLine Free (x ++ bytes)
pools_back true x bytes q h g = pools_line Free true x bytes (same_bytes x (codes "given") q) g
pools_back false x bytes q h g = pools_line Free false x bytes (same_bytes x (codes "seed") h) (said_free false seed_wants tt bytes g)

-- what can always be given
fit_letter : (row : Row) → Fit row (codes "A")
fit_letter r.Sorts = refl
fit_letter r.Names = refl
fit_letter (r.Args place) = word_fits (r.Args place) (codes "A") refl
fit_letter r.Values = word_fits r.Values (codes "A") refl

one_word : (row : Row) (count : ℕ) (ending : Ending) (more : List ℕ) → Words row count ending (32 ∷ (codes "A" ++ (closer ending ++ more))) more
one_word row count ending more =
    record { words = codes "A" ∷ []; each = (fit_letter row, tt); some = enough_of ending row; text = sym (spaced_is (codes "A") [] (closer ending ++ more)) }
  where
    positive : (n : ℕ) → nat_lt 0 (n + 1) ≡ true
    positive n = grind (arith, nat_tests)

    enough_of : (ending : Ending) (row : Row) → is_enough ending row (count + 1)
    enough_of e.Line r.Sorts = refl
    enough_of e.Line r.Names = refl
    enough_of e.Line (r.Args place) = refl
    enough_of e.Line r.Values = positive count
    enough_of e.Bracket row = omega arith
    enough_of (e.Mark mark) row = tt

fill : (wants : List Want) → (bytes : List ℕ) × Given wants bytes
fill [] = ([], refl)
fill (w.Key stage ∷ rest) = ([], tt)
fill (w.Version ∷ rest) = let f = fill rest in (codes "1" ++ f.0, (codes "1", refl, f.0, refl, f.1))
fill (w.Pools ∷ rest) = (codes "given" ++ [], pools_line Free true (codes "given") [] refl refl)
fill (w.Gap ∷ rest) = let f = fill rest in (32 ∷ f.0, (f.0, refl, f.1))
fill (w.Fixed mark ∷ rest) = let f = fill rest in (mark_text mark ++ f.0, (f.0, refl, f.1))
fill (w.Number ∷ rest) = let f = fill rest in (decimal 0 ++ f.0, (0, omega arith, f.0, refl, f.1))
fill (w.Name ∷ rest) = let f = fill rest in (codes "A" ++ f.0, (codes "A", refl, f.0, refl, f.1))
fill (w.Head ∷ rest) = let f = fill rest in (codes "A" ++ f.0, (codes "A", refl, f.0, refl, f.1))
fill (w.Root place ending ∷ rest) =
    let f = fill rest in let layer : RawTerm-F RawTerm = record { head = Name (codes "A"); args = [] } in
    (term_spelling (roll-RawTerm layer) ++ (closer ending ++ f.0), (roll-RawTerm layer, named_fits place (codes "A") [] refl refl, f.0, refl, f.1))
fill (w.Row row level count ending ∷ rest) = let f = fill rest in (32 ∷ (codes "A" ++ (closer ending ++ f.0)), (f.0, one_word row count ending f.0, f.1))
fill (w.Item row level count ending ∷ rest) = let f = fill rest in (codes "A" ++ (closer ending ++ f.0), (f.0, one_word row count ending f.0, f.1))

word_back : (n : ℕ) (want : Want) (rest : List Want) (x bytes : List ℕ) → Wanted Free n (want ∷ rest) → takes Free n want (word x) ≡ true → Given (moved n want rest (word x)).wants bytes → Given (want ∷ rest) (x ++ bytes)
word_back n (w.Key stage) rest x bytes h t g = tt
word_back n w.Version rest x bytes h t g = (x, t, bytes, refl, g)
word_back n w.Pools rest x bytes h t g =
    pools_back (bytes_eq x (codes "given")) x bytes refl t (subst (λ l. Given l bytes) (append-nil (pools_wants (bytes_eq x (codes "given")))) (subst (λ l. Given (pools_wants (bytes_eq x (codes "given")) ++ l) bytes) h g))
word_back n (w.Fixed mark) rest x bytes h t g = (bytes, ap (λ t. t ++ bytes) (same_bytes x (mark_text mark) t), g)
word_back n w.Number rest x bytes h t g = let q = number_by (number_below (2 ^ 63) x) x refl t in (q.0, q.1, bytes, ap (λ t. t ++ bytes) q.2, g)
word_back n w.Name rest x bytes h t g = (x, t, bytes, refl, g)
word_back n w.Head rest x bytes h t g = (x, t, bytes, refl, g)
word_back n (w.Root place ending) rest x bytes h t g = root_back (is_word_of_letters x) place ending rest x bytes refl t h.0 g
word_back n (w.Item row level count ending) rest x bytes h t g = item_back (is_mark ending x) n row level count ending rest x bytes refl t g
word_back n w.Gap rest x bytes h t g = absurd cc
word_back n (w.Row row level count ending) rest x bytes h t g = absurd cc

back : (n : ℕ) (want : Want) (rest : List Want) (piece : Piece) (bytes : List ℕ) → Wanted Free n (want ∷ rest) → takes Free n want piece ≡ true → Given (moved n want rest piece).wants bytes → Given (want ∷ rest) (piece_text piece ++ bytes)
back n want rest space bytes h t g = space_back n want rest bytes t g
back n want rest opening bytes h t g = opening_back n want rest bytes t g
back n want rest closing bytes h t g = closing_back n want rest bytes t g
back n want rest (word x) bytes h t g = word_back n want rest x bytes h t g

-- Where a space or a bracket is wanted, one is given.
closer_apart : (ending : Ending) (rest : List Want) (further : Type 0) (more : List ℕ) → Behind ending rest further → Given rest more → begins_apart (closer ending ++ more) ≡ true
closer_apart e.Line rest further more b g = let q : more ≡ [] = subst (λ t. Given t more) b g in subst (λ t. begins_apart t ≡ true) (sym q) apart_none
closer_apart e.Bracket rest further more b g = apart_close more
closer_apart (e.Mark mark) rest further more b g = apart_space (mark_text mark ++ more)

words_apart : (words : List (List ℕ)) (more : List ℕ) → begins_apart more ≡ true → begins_apart (spaced words ++ more) ≡ true
words_apart [] more h = h
words_apart (x ∷ words) more h = apart_space ((x ++ spaced words) ++ more)

pub given_apart : (wants : List Want) (n : ℕ) (bytes : List ℕ) → Wanted Free n wants → StartsApart wants → Given wants bytes → begins_apart bytes ≡ true
given_apart [] n bytes h s g = subst (λ t. begins_apart t ≡ true) (sym g) apart_none
given_apart (w.Gap ∷ rest) n bytes h s g = subst (λ t. begins_apart t ≡ true) (sym g.1) (apart_space g.0)
given_apart (w.Row row level count ending ∷ rest) n bytes h s g =
    subst (λ t. begins_apart t ≡ true) (sym g.1.text) (words_apart g.1.words (closer ending ++ g.0) (closer_apart ending rest ((m : ℕ) → Wanted Free m rest) g.0 h.2 g.2))
given_apart (w.Key stage ∷ rest) n bytes h s g = absurd s
given_apart (w.Version ∷ rest) n bytes h s g = absurd s
given_apart (w.Pools ∷ rest) n bytes h s g = absurd s
given_apart (w.Fixed mark ∷ rest) n bytes h s g = absurd s
given_apart (w.Number ∷ rest) n bytes h s g = absurd s
given_apart (w.Name ∷ rest) n bytes h s g = absurd s
given_apart (w.Head ∷ rest) n bytes h s g = absurd s
given_apart (w.Root place ending ∷ rest) n bytes h s g = absurd s
given_apart (w.Item row level count ending ∷ rest) n bytes h s g = absurd s

-- The words of a line are not empty, and have no space or bracket.
abbrev pub IsPiece : Piece → Type 0
IsPiece space = Unit {0}
IsPiece opening = Unit {0}
IsPiece closing = Unit {0}
IsPiece (word bytes) = is_solid bytes ≡ true

-- a piece in front of others
pub piece_on : (piece : Piece) (wants : List Want) (full : List ℕ) → IsPiece piece → Apart piece wants → (StartsApart wants → begins_apart full ≡ true) → pieces (piece_text piece ++ full) ≡ piece ∷ pieces full
piece_on space wants full is apart h = refl
piece_on opening wants full is apart h = refl
piece_on closing wants full is apart h = refl
piece_on (word bytes) wants full is apart h = solid_first bytes full is (h apart)

-- Each piece is taken.
abbrev pub Taken : Bounds → ℕ → List Want → List Piece → Type 0
Taken bounds n wants [] = Unit {0}
Taken bounds n [] (piece ∷ ps) = ⊥
Taken bounds n (want ∷ rest) (piece ∷ ps) = (takes bounds n want piece ≡ true) × Taken bounds (moved n want rest piece).nodes (moved n want rest piece).wants ps

-- what can be given begins with them
pub record Fills (wants : List Want) (ps : List Piece) : Type 0 where
  pub bytes : List ℕ
  pub given : Given wants bytes
  pub more : List Piece
  pub begins : pieces bytes ≡ ps ++ more

pub fills : (ps : List Piece) (n : ℕ) (wants : List Want) → Wanted Free n wants → Taken Free n wants ps → AllByRecursion IsPiece ps → Fills wants ps
fills [] n wants h t is = let f = fill wants in record { bytes = f.0; given = f.1; more = pieces f.0; begins = refl }
fills (piece ∷ ps) n [] h t is = absurd t
fills (piece ∷ ps) n (want ∷ rest) h t is =
    let q = piece_left Free n want rest piece h t.0 in
    let next = moved n want rest piece in
    let x = fills ps next.nodes next.wants q.0 t.1 is.1 in
    record {
      bytes = piece_text piece ++ x.bytes;
      given = back n want rest piece x.bytes h t.0 x.given;
      more = x.more;
      begins = piece_on piece next.wants x.bytes is.0 q.1 (λ s. given_apart next.wants next.nodes x.bytes q.0 s x.given) ∙ ap (λ l. piece ∷ l) x.begins;
    }
