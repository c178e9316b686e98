-- What is spelled is read: pieces, names and terms.
use Rattle.std.proofs.Common.{◌≡◌, ℕ, ◌+◌, ◌<◌, ◌≤◌, ◌^◌, Bool, true, false, ◌&&◌, ◌||◌, ◌==◌, List, [], ◌∷◌, ◌++◌, Some, refl, ap, sym, ◌∙◌, arith, length, nat_le, nat_lt, decimal, is_some}
use Rattle.std.proofs.lemmas.Bool.Decides.{nat_tests}
use Rattle.std.proofs.lemmas.Grind.{common_steps}
use Rattle.std.proofs.lemmas.List.{append-nil}
use Rattle.std.specs.List.{list_all}
use Rattle.std.specs.Str.{bytes_eq}
use Rattle.law_lines.specs.Words.{is_name_byte, is_letter, is_digit, is_word_of_letters, is_numeral}
use Rattle.law_lines.specs.Pieces.{Piece, pieces, is_plain}
use Rattle.law_lines.specs.Pieces.Piece.{space, word}
use Rattle.law_lines.proofs.FirstPieces.{begins_apart, word_first}
use Rattle.law_lines.proofs.Numbers.{decimal_numeral, number_of_decimal}
use Rattle.law_lines.specs.declared.raw.RawHead.{RawHead}
use Rattle.law_lines.specs.declared.raw.RawHead.TheVariants.{Name, Var, Param, Field}
use Rattle.law_lines.specs.declared.want.Want.{Want}
use Rattle.law_lines.specs.declared.want.Want.TheVariants as w
use Rattle.law_lines.specs.declared.want.Bounds.{Bounds}
use Rattle.law_lines.specs.declared.want.Bounds.TheVariants.{Kept, Free}
use Rattle.law_lines.specs.declared.want.Place.{Place}
use Rattle.law_lines.specs.declared.want.Place.TheVariants as p
use Rattle.law_lines.specs.declared.want.Mark.TheVariants.{Equals, Arrow, Height, Count}
use Rattle.law_lines.specs.declared.want.Row.{Row}
use Rattle.law_lines.specs.declared.want.Ending.{Ending}
use Rattle.law_lines.specs.declared.want.Ending.TheVariants as e
use Rattle.law_lines.specs.Spelling.{head_spelling}
use Rattle.law_lines.specs.Terms.{is_name_in, head_fits, within}
use Rattle.law_lines.specs.Walk.{walk_in, takes, takes_word, moved, word_moved, kind_at, step, is_variable, is_special, is_atom, is_item, is_mark, has_mark, may_come, item_moved, before_item}
use Rattle.law_lines.specs.Numbers.{is_number, is_index, cut, cut_by}
use Rattle.law_lines.proofs.RowSteps.{both}

-- a condition that the grammar without bounds doesn't have
abbrev pub Bound : Bounds → Type 0 → Type 0
Bound Kept condition = condition
Bound Free condition = Unit {0}

pub bound_by : (bounds : Bounds) (a b : Type 0) → (a → b) → Bound bounds a → Bound bounds b
bound_by Kept a b f h = f h
bound_by Free a b f h = tt

pub no_bound : (bounds : Bounds) → Bound bounds (Unit {0})
no_bound Kept = tt
no_bound Free = tt

pub bound_of : (bounds : Bounds) (most n : ℕ) → within bounds most n ≡ true → Bound bounds (n ≤ most)
bound_of Kept most n h = low_of n most h
  where
    low_of : (n k : ℕ) → nat_le n k ≡ true → n ≤ k
    low_of n k h = grind (arith, nat_tests)
bound_of Free most n h = tt

-- single pieces
pub taken_on : (bounds : Bounds) (n : ℕ) (want : Want) (rest : List Want) (piece : Piece) (ps : List Piece) → takes bounds n want piece ≡ true
    → walk_in bounds n (want ∷ rest) (piece ∷ ps) ≡ walk_in bounds (moved n want rest piece).nodes (moved n want rest piece).wants ps
unfolding walk_in
taken_on bounds n want rest piece ps h = ap (λ b. step b (kind_at n want piece) (walk_in bounds (moved n want rest piece).nodes (moved n want rest piece).wants ps)) h

unfoldable pub is_solid : List ℕ → Bool
is_solid [] = false
is_solid (b ∷ bs) = list_all is_plain (b ∷ bs)

pub solid_first : (bytes bs : List ℕ) → is_solid bytes ≡ true → begins_apart bs ≡ true → pieces (bytes ++ bs) ≡ word bytes ∷ pieces bs
unfolding is_solid
solid_first [] bs h a = absurd cc
solid_first (b ∷ bytes) bs h a = word_first b bytes bs h a

pub word_on : (bounds : Bounds) (n : ℕ) (want : Want) (rest : List Want) (bytes bs : List ℕ) → is_solid bytes ≡ true → begins_apart bs ≡ true → takes_word bounds n want bytes ≡ true
    → walk_in bounds n (want ∷ rest) (pieces (bytes ++ bs)) ≡ walk_in bounds (word_moved n want rest bytes).nodes (word_moved n want rest bytes).wants (pieces bs)
word_on bounds n want rest bytes bs solid apart h = ap (λ ps. walk_in bounds n (want ∷ rest) ps) (solid_first bytes bs solid apart) ∙ taken_on bounds n want rest (word bytes) (pieces bs) h

pub gap_on : (bounds : Bounds) (n : ℕ) (rest : List Want) (bs : List ℕ) → walk_in bounds n (w.Gap ∷ rest) (pieces (32 ∷ bs)) ≡ walk_in bounds n rest (pieces bs)
gap_on bounds n rest bs = taken_on bounds n w.Gap rest space (pieces bs) refl

pub apart_space : (bs : List ℕ) → begins_apart (32 ∷ bs) ≡ true
unfolding begins_apart
apart_space bs = refl

pub apart_close : (bs : List ℕ) → begins_apart (41 ∷ bs) ≡ true
unfolding begins_apart
apart_close bs = refl

pub apart_none : begins_apart [] ≡ true
unfolding begins_apart
apart_none = refl

-- the words of names and numbers
name_plain : (b : ℕ) → is_name_byte b ≡ true → is_plain b ≡ true
name_plain b h = grind (arith, nat_tests)

digit_plain : (b : ℕ) → is_digit b ≡ true → is_plain b ≡ true
digit_plain b h = grind (arith, nat_tests)

letter_named : (b : ℕ) → is_letter b ≡ true → is_name_byte b ≡ true
letter_named b h = ap (λ t. t || is_digit b || b == 95) h

all_plain : (test : ℕ → Bool) (bs : List ℕ) → ((b : ℕ) → test b ≡ true → is_plain b ≡ true) → list_all test bs ≡ true → list_all is_plain bs ≡ true
all_plain test [] f h = refl
all_plain test (b ∷ bs) f h = let q = both (test b) (list_all test bs) h in ap (λ t. t && list_all is_plain bs) (f b q.0) ∙ all_plain test bs f q.1

pub all_named : (bytes : List ℕ) → is_word_of_letters bytes ≡ true → list_all is_name_byte bytes ≡ true
all_named [] h = absurd cc
all_named (b ∷ bytes) h = let q = both (is_letter b) (list_all is_name_byte bytes) h in ap (λ t. t && list_all is_name_byte bytes) (letter_named b q.0) ∙ q.1

some_solid : (bytes : List ℕ) → list_all is_plain bytes ≡ true → 0 < length bytes → is_solid bytes ≡ true
unfolding is_solid
some_solid [] h some = absurd (omega arith)
some_solid (b ∷ bytes) h some = h

pub letters_some : (bytes : List ℕ) → is_word_of_letters bytes ≡ true → 0 < length bytes
letters_some [] h = absurd cc
letters_some (b ∷ bytes) h = omega arith

pub letters_in : (bounds : Bounds) (bytes : List ℕ) → is_name_in bounds bytes ≡ true → is_word_of_letters bytes ≡ true
letters_in bounds bytes h = (both (is_word_of_letters bytes) (within bounds 32 (length bytes)) h).0

pub letters_solid : (bytes : List ℕ) → is_word_of_letters bytes ≡ true → is_solid bytes ≡ true
letters_solid bytes h = some_solid bytes (all_plain is_name_byte bytes name_plain (all_named bytes h)) (letters_some bytes h)

pub name_solid : (bytes : List ℕ) → is_name_in Kept bytes ≡ true → is_solid bytes ≡ true
name_solid bytes h = letters_solid bytes (letters_in Kept bytes h)

pub numeral_digits : (bytes : List ℕ) → is_numeral bytes ≡ true → list_all is_digit bytes ≡ true
numeral_digits [] h = absurd cc
numeral_digits (a ∷ []) h = ap (λ t. t && true) h
numeral_digits (a ∷ b ∷ bytes) h = grind (arith, nat_tests)

pub numeral_some : (bytes : List ℕ) → is_numeral bytes ≡ true → 0 < length bytes
numeral_some [] h = absurd cc
numeral_some (a ∷ bytes) h = omega arith

numeral_solid : (bytes : List ℕ) → is_numeral bytes ≡ true → is_solid bytes ≡ true
numeral_solid bytes h = some_solid bytes (all_plain is_digit bytes digit_plain (numeral_digits bytes h)) (numeral_some bytes h)

pub number_solid : (n : ℕ) → n < 2 ^ 63 → is_solid (decimal n) ≡ true
number_solid n h = numeral_solid (decimal n) (decimal_numeral n (omega arith)).0

pub number_is_number : (n : ℕ) → n < 2 ^ 63 → is_number (decimal n) ≡ true
number_is_number n h = ap is_some (number_of_decimal (2 ^ 63) n (omega arith) h)

index_is_index : (n : ℕ) → n < 2 ^ 32 → is_index (decimal n) ≡ true
index_is_index n h = ap is_some (number_of_decimal (2 ^ 32) n (omega arith) h)

-- atoms
pub cut_at_dot : (sort index : List ℕ) → list_all is_name_byte sort ≡ true → cut (sort ++ 46 ∷ index) ≡ Some (sort, index)
cut_at_dot [] index h = refl
cut_at_dot (b ∷ sort) index h =
    let q = both (is_name_byte b) (list_all is_name_byte sort) h in
    let no_dot : (b == 46) ≡ false = not_dot b q.0 in
    ap (λ t. cut_by t b (sort ++ 46 ∷ index) (cut (sort ++ 46 ∷ index))) no_dot ∙ ap (λ o. cut_by false b (sort ++ 46 ∷ index) o) (cut_at_dot sort index q.1)
  where
    not_dot : (b : ℕ) → is_name_byte b ≡ true → (b == 46) ≡ false
    not_dot b h = grind (arith, nat_tests)

pub less_of : (n k : ℕ) → nat_lt n k ≡ true → n < k
less_of n k h = grind (arith, nat_tests)

pub or_true : (a b : Bool) → b ≡ true → (a || b) ≡ true
or_true true b h = refl
or_true false b h = h

plain_append : (xs ys : List ℕ) → list_all is_plain xs ≡ true → list_all is_plain ys ≡ true → list_all is_plain (xs ++ ys) ≡ true
plain_append [] ys h g = g
plain_append (x ∷ xs) ys h g = let q = both (is_plain x) (list_all is_plain xs) h in ap (λ t. t && list_all is_plain (xs ++ ys)) q.0 ∙ plain_append xs ys q.1 g

index_plain : (n : ℕ) → n < 2 ^ 32 → list_all is_plain (decimal n) ≡ true
index_plain n h = all_plain is_digit (decimal n) digit_plain (numeral_digits (decimal n) (decimal_numeral n (omega arith)).0)

-- the endings that rows have
abbrev pub RowMark : Ending → Type 0
RowMark e.Line = Unit {0}
RowMark e.Bracket = Unit {0}
RowMark (e.Mark Equals) = Unit {0}
RowMark (e.Mark Arrow) = Unit {0}
RowMark (e.Mark Height) = ⊥
RowMark (e.Mark Count) = ⊥

unmarked : (b : ℕ) (bs : List ℕ) (ending : Ending) → (b == 61) ≡ false → (b == 45) ≡ false → RowMark ending → is_mark ending (b ∷ bs) ≡ false
unmarked b bs e.Line x y h = refl
unmarked b bs e.Bracket x y h = refl
unmarked b bs (e.Mark Equals) x y h = ap (λ t. t && bytes_eq bs []) x
unmarked b bs (e.Mark Arrow) x y h = ap (λ t. t && bytes_eq bs (62 ∷ [])) y
unmarked b bs (e.Mark Height) x y h = absurd h
unmarked b bs (e.Mark Count) x y h = absurd h

letters_unmarked : (bytes more : List ℕ) (ending : Ending) → is_word_of_letters bytes ≡ true → RowMark ending → is_mark ending (bytes ++ more) ≡ false
letters_unmarked [] more ending h m = absurd cc
letters_unmarked (b ∷ bytes) more ending h m =
    let l = (both (is_letter b) (list_all is_name_byte bytes) h).0 in unmarked b (bytes ++ more) ending (not_equals b l) (not_dash b l) m
  where
    not_equals : (b : ℕ) → is_letter b ≡ true → (b == 61) ≡ false
    not_equals b h = grind (arith, nat_tests)

    not_dash : (b : ℕ) → is_letter b ≡ true → (b == 45) ≡ false
    not_dash b h = grind (arith, nat_tests)

-- What the head of a term is as a word: taken as an atom, and no fixed word.
pub record IsAtomWord (bounds : Bounds) (place : Place) (bytes : List ℕ) : Type 0 where
  pub solid : is_solid bytes ≡ true
  pub atom : is_atom bounds place bytes ≡ true
  pub no_mark : (ending : Ending) → RowMark ending → is_mark ending bytes ≡ false

pub name_unmarked : (bounds : Bounds) (bytes : List ℕ) (ending : Ending) → is_name_in bounds bytes ≡ true → RowMark ending → is_mark ending bytes ≡ false
name_unmarked bounds bytes ending h m =
    ap (λ l. is_mark ending l) (sym (append-nil bytes)) ∙ letters_unmarked bytes [] ending (letters_in bounds bytes h) m

name_atom : (bounds : Bounds) (place : Place) (bytes : List ℕ) → is_name_in bounds bytes ≡ true → IsAtomWord bounds place bytes
name_atom bounds place bytes h = record {
  solid = letters_solid bytes (letters_in bounds bytes h);
  atom = ap (λ t. t || is_special bounds place bytes) h;
  no_mark = λ ending m. name_unmarked bounds bytes ending h m;
}

pub head_atom : (bounds : Bounds) (place : Place) (head : RawHead) → head_fits bounds place head true ≡ true → IsAtomWord bounds place (head_spelling head)
head_atom bounds place (Name name) h = name_atom bounds place name h
head_atom bounds p.Equation (Var sort index) h =
    let q = both (is_name_in bounds sort) (nat_lt index (2 ^ 32)) h in
    let letters = letters_in bounds sort q.0 in
    let named = all_named sort letters in
    let small = less_of index (2 ^ 32) q.1 in
    record {
      solid = some_solid (sort ++ 46 ∷ decimal index) (plain_append sort (46 ∷ decimal index) (all_plain is_name_byte sort name_plain named) (index_plain index small)) (longer sort (46 ∷ decimal index) (letters_some sort letters));
      atom = or_true (is_name_in bounds (sort ++ 46 ∷ decimal index)) (is_variable bounds (cut (sort ++ 46 ∷ decimal index)))
          (ap (λ o. is_variable bounds o) (cut_at_dot sort (decimal index) named) ∙ ap (λ t. t && is_index (decimal index)) q.0 ∙ index_is_index index small);
      no_mark = λ ending m. letters_unmarked sort (46 ∷ decimal index) ending letters m;
    }
  where
    longer : (xs ys : List ℕ) → 0 < length xs → 0 < length (xs ++ ys)
    longer xs ys h = grind (arith, common_steps)
head_atom bounds p.Body (Param n) h = let small = less_of n (2 ^ 32) h in record {
  solid = some_solid (35 ∷ decimal n) (index_plain n small) (omega arith);
  atom = index_is_index n small;
  no_mark = λ ending m. unmarked 35 (decimal n) ending refl refl m;
}
head_atom bounds p.Body (Field n) h = let small = less_of n (2 ^ 32) h in record {
  solid = some_solid (64 ∷ decimal n) (index_plain n small) (omega arith);
  atom = index_is_index n small;
  no_mark = λ ending m. unmarked 64 (decimal n) ending refl refl m;
}
head_atom bounds p.Equation (Param n) h = absurd cc
head_atom bounds p.Equation (Field n) h = absurd cc
head_atom bounds p.Body (Var sort index) h = absurd cc
head_atom bounds p.Value (Var sort index) h = absurd cc
head_atom bounds p.Value (Param n) h = absurd cc
head_atom bounds p.Value (Field n) h = absurd cc

-- one step of a row
pub and_true : (a b : Bool) → a ≡ true → b ≡ true → (a && b) ≡ true
and_true a b h g = ap (λ t. t && b) h ∙ g

pub or_left : (a b : Bool) → a ≡ true → (a || b) ≡ true
or_left a b h = ap (λ t. t || b) h

pub space_on : (bounds : Bounds) (n : ℕ) (row : Row) (level count : ℕ) (ending : Ending) (rest : List Want) (bs : List ℕ) → may_come bounds n row level count ≡ true
    → walk_in bounds n (w.Row row level count ending ∷ rest) (pieces (32 ∷ bs)) ≡ walk_in bounds n (w.Item row level count ending ∷ rest) (pieces bs)
space_on bounds n row level count ending rest bs h =
    taken_on bounds n (w.Row row level count ending) rest space (pieces bs) (or_true (has_mark ending) (may_come bounds n row level count) h)

pub item_on : (bounds : Bounds) (n : ℕ) (row : Row) (level count : ℕ) (ending : Ending) (rest : List Want) (bytes bs : List ℕ) → is_solid bytes ≡ true → begins_apart bs ≡ true
    → is_mark ending bytes ≡ false → may_come bounds n row level count ≡ true → is_item bounds row bytes ≡ true
    → walk_in bounds n (w.Item row level count ending ∷ rest) (pieces (bytes ++ bs)) ≡ walk_in bounds (before_item row n + 1) (w.Row row level (count + 1) ending ∷ rest) (pieces bs)
item_on bounds n row level count ending rest bytes bs solid apart mark may item =
    word_on bounds n (w.Item row level count ending) rest bytes bs solid apart
    (or_true (is_mark ending bytes) (may_come bounds n row level count && is_item bounds row bytes) (and_true (may_come bounds n row level count) (is_item bounds row bytes) may item))
    ∙ ap (λ b. walk_in bounds (item_moved b n row level count ending rest).nodes (item_moved b n row level count ending rest).wants (pieces bs)) mark
