-- What is spelled has printed bytes, and no space too many.
use Rattle.std.proofs.Common.{◌≡◌, ℕ, ◌<◌, ◌^◌, Bool, true, false, ◌&&◌, ◌==◌, not, List, [], ◌∷◌, ◌++◌, refl, ap, sym, subst, ◌∙◌, arith, map, length, nat_le, nat_lt, decimal}
use Rattle.std.proofs.lemmas.Bool.Decides.{nat_tests}
use Rattle.std.proofs.lemmas.List.{append_assoc}
use Rattle.std.specs.List.{list_all, AllByRecursion}
use Rattle.law_lines.specs.Words.{is_name_byte, is_digit, is_word_of_letters}
use Rattle.law_lines.proofs.Numbers.{decimal_numeral}
use Rattle.law_lines.specs.declared.raw.RawHead.{RawHead}
use Rattle.law_lines.specs.declared.raw.RawHead.TheVariants.{Name, Var, Param, Field}
use Rattle.law_lines.specs.declared.raw.RawTerm.{RawTerm}
use Rattle.law_lines.specs.declared.raw.RawTerm.TheOpen.{RawTerm-F}
use Rattle.law_lines.specs.declared.raw.RawTerm.TheFolds.{fold-roll-RawTerm, fold_out-RawTerm, ind-RawTerm, map-RawTerm}
use Rattle.law_lines.specs.declared.raw.RawTerm.TheViews.{roll-RawTerm, out-RawTerm}
use Rattle.law_lines.specs.declared.want.Bounds.TheVariants.{Kept}
use Rattle.law_lines.specs.declared.want.Place.{Place}
use Rattle.law_lines.specs.declared.want.Place.TheVariants as p
use Rattle.law_lines.specs.Spelling.{arg_spelling, arg_step, bracketed, head_spelling, spaced, term_words}
use Rattle.law_lines.specs.Terms.{IsTerm, head_fits, is_empty, is_name_in, node_fits, nodes_fit, within}
use Rattle.law_lines.specs.Faults.{is_printed, spaces_fit}
use Rattle.law_lines.proofs.RowSteps.{both}
use Rattle.law_lines.proofs.Again.{all_named, less_of, letters_some, numeral_digits, numeral_some}

-- a printed byte that is no space
abbrev pub is_graphic : ℕ → Bool
is_graphic b = nat_le 33 b && nat_le b 126

pub record IsClean (bytes : List ℕ) : Type 0 where
  pub printed : list_all is_printed bytes ≡ true
  pub spaces : (behind : Bool) (rest : List ℕ) → spaces_fit behind (bytes ++ rest) ≡ spaces_fit false rest

graphic_printed : (b : ℕ) → is_graphic b ≡ true → is_printed b ≡ true
graphic_printed b h = grind (arith, nat_tests)

graphic_apart : (b : ℕ) → is_graphic b ≡ true → (b == 32) ≡ false
graphic_apart b h = grind (arith, nat_tests)

graphic_step : (behind t : Bool) (rest : List ℕ) → t ≡ false → (not (behind && t) && spaces_fit t rest) ≡ spaces_fit false rest
graphic_step true true rest h = absurd cc
graphic_step false true rest h = absurd cc
graphic_step true false rest h = refl
graphic_step false false rest h = refl

graphic_spaces : (bytes : List ℕ) (rest : List ℕ) → list_all is_graphic bytes ≡ true → spaces_fit false (bytes ++ rest) ≡ spaces_fit false rest
graphic_spaces [] rest h = refl
graphic_spaces (b ∷ bytes) rest h =
    let q = both (is_graphic b) (list_all is_graphic bytes) h in graphic_step false (b == 32) (bytes ++ rest) (graphic_apart b q.0) ∙ graphic_spaces bytes rest q.1

graphic_all : (bytes : List ℕ) → list_all is_graphic bytes ≡ true → list_all is_printed bytes ≡ true
graphic_all [] h = refl
graphic_all (b ∷ bytes) h = let q = both (is_graphic b) (list_all is_graphic bytes) h in ap (λ t. t && list_all is_printed bytes) (graphic_printed b q.0) ∙ graphic_all bytes q.1

pub clean_word : (bytes : List ℕ) → 0 < length bytes → list_all is_graphic bytes ≡ true → IsClean bytes
clean_word [] some h = absurd (omega arith)
clean_word (b ∷ bytes) some h = let q = both (is_graphic b) (list_all is_graphic bytes) h in record {
  printed = graphic_all (b ∷ bytes) h;
  spaces = λ behind rest. graphic_step behind (b == 32) (bytes ++ rest) (graphic_apart b q.0) ∙ graphic_spaces bytes rest q.1;
}

all_as : (test : ℕ → Bool) (bs : List ℕ) → ((b : ℕ) → test b ≡ true → is_graphic b ≡ true) → list_all test bs ≡ true → list_all is_graphic bs ≡ true
all_as test [] f h = refl
all_as test (b ∷ bs) f h = let q = both (test b) (list_all test bs) h in ap (λ t. t && list_all is_graphic bs) (f b q.0) ∙ all_as test bs f q.1

named_graphic : (b : ℕ) → is_name_byte b ≡ true → is_graphic b ≡ true
named_graphic b h = grind (arith, nat_tests)

digit_graphic : (b : ℕ) → is_digit b ≡ true → is_graphic b ≡ true
digit_graphic b h = grind (arith, nat_tests)

number_graphic : (n : ℕ) → n < 2 ^ 64 → list_all is_graphic (decimal n) ≡ true
number_graphic n h = all_as is_digit (decimal n) digit_graphic (numeral_digits (decimal n) (decimal_numeral n h).0)

pub clean_number : (n : ℕ) → n < 2 ^ 63 → IsClean (decimal n)
clean_number n h = clean_word (decimal n) (numeral_some (decimal n) (decimal_numeral n (omega arith)).0) (number_graphic n (omega arith))

pub clean_name : (name : List ℕ) → is_name_in Kept name ≡ true → IsClean name
clean_name name h =
    let letters = (both (is_word_of_letters name) (within Kept 32 (length name)) h).0 in clean_word name (letters_some name letters) (all_as is_name_byte name named_graphic (all_named name letters))

graphic_append : (xs ys : List ℕ) → list_all is_graphic xs ≡ true → list_all is_graphic ys ≡ true → list_all is_graphic (xs ++ ys) ≡ true
graphic_append [] ys h g = g
graphic_append (x ∷ xs) ys h g = let q = both (is_graphic x) (list_all is_graphic xs) h in ap (λ t. t && list_all is_graphic (xs ++ ys)) q.0 ∙ graphic_append xs ys q.1 g

longer : (xs ys : List ℕ) → 0 < length xs → 0 < length (xs ++ ys)
longer [] ys h = absurd (omega arith)
longer (x ∷ xs) ys h = omega arith

clean_head : (place : Place) (head : RawHead) (alone : Bool) → head_fits Kept place head alone ≡ true → IsClean (head_spelling head)
clean_head place (Name name) alone h = clean_name name h
clean_head p.Equation (Var sort index) true h =
    let q = both (is_name_in Kept sort) (nat_lt index (2 ^ 32)) h in
    let letters = (both (is_word_of_letters sort) (within Kept 32 (length sort)) q.0).0 in
    let small = less_of index (2 ^ 32) q.1 in
    clean_word (sort ++ 46 ∷ decimal index) (longer sort (46 ∷ decimal index) (letters_some sort letters))
    (graphic_append sort (46 ∷ decimal index) (all_as is_name_byte sort named_graphic (all_named sort letters)) (number_graphic index (omega arith)))
clean_head p.Body (Param n) true h = let small = less_of n (2 ^ 32) h in clean_word (35 ∷ decimal n) (omega arith) (number_graphic n (omega arith))
clean_head p.Body (Field n) true h = let small = less_of n (2 ^ 32) h in clean_word (64 ∷ decimal n) (omega arith) (number_graphic n (omega arith))
clean_head p.Equation (Var sort index) false h = absurd cc
clean_head p.Body (Param n) false h = absurd cc
clean_head p.Body (Field n) false h = absurd cc
clean_head p.Equation (Param n) alone h = absurd cc
clean_head p.Equation (Field n) alone h = absurd cc
clean_head p.Body (Var sort index) alone h = absurd cc
clean_head p.Value (Var sort index) alone h = absurd cc
clean_head p.Value (Param n) alone h = absurd cc
clean_head p.Value (Field n) alone h = absurd cc

pub printed_append : (xs ys : List ℕ) → list_all is_printed xs ≡ true → list_all is_printed ys ≡ true → list_all is_printed (xs ++ ys) ≡ true
printed_append [] ys h g = g
printed_append (x ∷ xs) ys h g = let q = both (is_printed x) (list_all is_printed xs) h in ap (λ t. t && list_all is_printed (xs ++ ys)) q.0 ∙ printed_append xs ys q.1 g

-- words behind spaces
pub clean_spaced : (words : List (List ℕ)) → AllByRecursion IsClean words → (list_all is_printed (spaced words) ≡ true) × ((rest : List ℕ) → spaces_fit false (spaced words ++ rest) ≡ spaces_fit false rest)
clean_spaced [] h = (refl, λ rest. refl)
clean_spaced (x ∷ words) h = let more = clean_spaced words h.1 in (
  printed_append x (spaced words) h.0.printed more.0,
  λ rest. ap (λ l. spaces_fit false l) (append_assoc (32 ∷ x) (spaced words) rest) ∙ h.0.spaces true (spaced words ++ rest) ∙ more.1 rest,
)

clean_bracketed : (head : List ℕ) (args : List (List ℕ)) → IsClean head → AllByRecursion IsClean args → IsClean (bracketed head args)
clean_bracketed head [] h a = h
clean_bracketed head (x ∷ args) h a =
    let s = clean_spaced (x ∷ args) a in record {
      printed = printed_append head (spaced (x ∷ args) ++ 41 ∷ []) h.printed (printed_append (spaced (x ∷ args)) (41 ∷ []) s.0 refl);
      spaces = λ behind rest. graphic_step behind false ((head ++ (spaced (x ∷ args) ++ 41 ∷ [])) ++ rest) refl
          ∙ ap (λ l. spaces_fit false l) (append_assoc head (spaced (x ∷ args) ++ 41 ∷ []) rest ∙ ap (λ l. head ++ l) (append_assoc (spaced (x ∷ args)) (41 ∷ []) rest))
          ∙ h.spaces false (spaced (x ∷ args) ++ 41 ∷ rest) ∙ s.1 (41 ∷ rest);
    }

-- terms
abbrev CleanArg : RawTerm → Type 0
CleanArg term = (place : Place) → nodes_fit Kept place term ≡ true → IsClean (arg_spelling term)

clean_args : (place : Place) (terms : List RawTerm) → AllByRecursion CleanArg terms → list_all (λ b. b) (map (nodes_fit Kept place) terms) ≡ true → AllByRecursion IsClean (map arg_spelling terms)
clean_args place [] h f = tt
clean_args place (x ∷ terms) h f = let q = both (nodes_fit Kept place x) (list_all (λ b. b) (map (nodes_fit Kept place) terms)) f in (h.0 place q.0, clean_args place terms h.1 q.1)

clean_by : (head : RawHead) (terms : List RawTerm) → AllByRecursion CleanArg terms → CleanArg (roll-RawTerm (record { head = head; args = terms }))
clean_by head terms all = λ place fits.
    let layer : RawTerm-F RawTerm = record { head = head; args = terms } in
    let f = both (head_fits Kept place head (is_empty (map (nodes_fit Kept place) terms))) _ (sym (fold-roll-RawTerm Bool (node_fits Kept place) layer) ∙ fits) in
    let g = both (nat_le (length (map (nodes_fit Kept place) terms)) 8) (list_all (λ b. b) (map (nodes_fit Kept place) terms)) f.1 in
    subst IsClean (sym (fold-roll-RawTerm (List ℕ) arg_step layer)) (clean_bracketed (head_spelling head) (map arg_spelling terms) (clean_head place head (is_empty (map (nodes_fit Kept place) terms)) f.0) (clean_args place terms all g.1))

all_clean_of : (pairs : List ((t : RawTerm) × CleanArg t)) → AllByRecursion CleanArg (map (λ q. q.0) pairs)
all_clean_of [] = tt
all_clean_of (pair ∷ pairs) = (pair.1, all_clean_of pairs)

clean_step : (y : RawTerm-F ((t : RawTerm) × CleanArg t)) → CleanArg (roll-RawTerm (map-RawTerm ((t : RawTerm) × CleanArg t) RawTerm (λ q. q.0) y))
clean_step y = clean_by y.head (map (λ q. q.0) y.args) (all_clean_of y.args)

pub clean_arg : (term : RawTerm) → CleanArg term
clean_arg = ind-RawTerm CleanArg (λ x y is. subst (λ z. CleanArg (roll-RawTerm z)) is (clean_step y))

all_clean : (terms : List RawTerm) → AllByRecursion CleanArg terms
all_clean [] = tt
all_clean (x ∷ terms) = (clean_arg x, all_clean terms)

pub clean_term : (place : Place) (term : RawTerm) → IsTerm Kept place term → AllByRecursion IsClean (term_words term)
clean_term place term h =
    let head = (out-RawTerm term).head in let args = (out-RawTerm term).args in
    let f = both (head_fits Kept place head (is_empty (map (nodes_fit Kept place) args))) _ (sym (fold_out-RawTerm Bool (node_fits Kept place) term) ∙ h.nodes) in
    let g = both (nat_le (length (map (nodes_fit Kept place) args)) 8) (list_all (λ b. b) (map (nodes_fit Kept place) args)) f.1 in
    (clean_head place head (is_empty (map (nodes_fit Kept place) args)) f.0, clean_args place args (all_clean args) g.1)
