-- A text spells one term at most: its words are told apart, and each tells its term.
use Rattle.std.proofs.Common.{◌≡◌, ℕ, suc, ◌^◌, ◌<◌, Bool, true, false, ◌&&◌, ◌==◌, List, [], ◌∷◌, ◌++◌, Option, Some, None, refl, ap, sym, subst, ◌∙◌, arith, map, length, nat_le, nat_lt, cond, decimal}
use Rattle.std.proofs.lemmas.Bool.Decides.{nat_tests}
use Rattle.std.proofs.lemmas.List.{append_assoc, append-nil}
use Rattle.std.specs.List.{list_all, AllByRecursion}
use Rattle.law_lines.specs.Words.{digits_on, is_letter, is_name_byte, is_word_of_letters}
use Rattle.law_lines.specs.Pieces.{is_plain}
use Rattle.law_lines.proofs.Numbers.{decimal_numeral}
use Rattle.law_lines.specs.declared.raw.RawHead.{RawHead}
use Rattle.law_lines.specs.declared.raw.RawHead.TheVariants.{Name, Var, Param, Field}
use Rattle.law_lines.specs.declared.raw.RawTerm.{RawTerm}
use Rattle.law_lines.specs.declared.raw.RawTerm.TheOpen.{RawTerm-F}
use Rattle.law_lines.specs.declared.raw.RawTerm.TheFolds.{fold-roll-RawTerm, fold_out-RawTerm, ind-RawTerm, map-RawTerm}
use Rattle.law_lines.specs.declared.raw.RawTerm.TheViews.{out-RawTerm, roll-RawTerm, roll-out-RawTerm}
use Rattle.law_lines.specs.declared.want.Bounds.TheVariants.{Kept}
use Rattle.law_lines.specs.declared.want.Place.{Place}
use Rattle.law_lines.specs.declared.want.Place.TheVariants as p
use Rattle.law_lines.specs.Spelling.{arg_spelling, arg_step, bracketed, head_spelling, joined, spaced, term_words}
use Rattle.law_lines.specs.FirstArg.{word_at, word_by}
use Rattle.law_lines.specs.Laws.{OneTerm}
use Rattle.law_lines.specs.Terms.{head_fits, is_empty, is_name_in, node_fits, nodes_fit, within}
use Rattle.law_lines.specs.Numbers.{cut}
use Rattle.law_lines.proofs.RowSteps.{both}
use Rattle.law_lines.proofs.Again.{all_named, cut_at_dot, head_atom, is_solid, less_of}

-- Bytes that are taken whole, inside of brackets or anywhere.
abbrev IsInner : List ℕ → Type 0
IsInner bytes = (level : ℕ) (rest : List ℕ) → word_at (suc level) (bytes ++ rest) ≡ bytes ++ word_at (suc level) rest

abbrev pub IsWhole : List ℕ → Type 0
IsWhole bytes = (level : ℕ) (rest : List ℕ) → word_at level (bytes ++ rest) ≡ bytes ++ word_at level rest

plain_by : (x y z : Bool) (level b : ℕ) (deeper higher same : List ℕ) → cond z false (cond x false (cond y false true)) ≡ true → word_by x y z level b deeper higher same ≡ b ∷ same
plain_by true y true level b deeper higher same h = absurd cc
plain_by true y false level b deeper higher same h = absurd cc
plain_by false true true level b deeper higher same h = absurd cc
plain_by false true false level b deeper higher same h = absurd cc
plain_by false false true level b deeper higher same h = absurd cc
plain_by false false false level b deeper higher same h = refl

pub plain_whole : (bytes : List ℕ) → list_all is_plain bytes ≡ true → IsWhole bytes
unfolding word_at
plain_whole [] h = λ level rest. refl
plain_whole (b ∷ bytes) h = λ level rest.
    let q = both (is_plain b) (list_all is_plain bytes) h in
    plain_by (b == 40) (b == 41) (b == 32) level b _ _ (word_at level (bytes ++ rest)) q.0 ∙ ap (λ l. b ∷ l) (plain_whole bytes q.1 level rest)

inner_append : (xs ys : List ℕ) → IsInner xs → IsInner ys → IsInner (xs ++ ys)
inner_append xs ys h g = λ level rest.
    ap (word_at (suc level)) (append_assoc xs ys rest) ∙ h level (ys ++ rest) ∙ ap (λ l. xs ++ l) (g level rest) ∙ sym (append_assoc xs ys (word_at (suc level) rest))

inner_space : (bytes : List ℕ) → IsInner bytes → IsInner (32 ∷ bytes)
unfolding word_at
inner_space bytes h = λ level rest. ap (λ l. 32 ∷ l) (h level rest)

inner_spaced : (words : List (List ℕ)) → AllByRecursion IsWhole words → IsInner (spaced words)
inner_spaced [] h = λ level rest. refl
inner_spaced (x ∷ words) h = inner_append (32 ∷ x) (spaced words) (inner_space x (λ level rest. h.0 (suc level) rest)) (inner_spaced words h.1)

closed : (level : ℕ) (rest : List ℕ) → word_at (suc level) (41 ∷ rest) ≡ 41 ∷ word_at level rest
unfolding word_at
closed level rest = refl

opened : (bytes : List ℕ) → IsInner bytes → IsWhole (40 ∷ (bytes ++ 41 ∷ []))
unfolding word_at
opened bytes h = λ level rest.
    ap (λ l. 40 ∷ l) (ap (word_at (suc level)) (append_assoc bytes (41 ∷ []) rest) ∙ h level (41 ∷ rest) ∙ ap (λ l. bytes ++ l) (closed level rest) ∙ sym (append_assoc bytes (41 ∷ []) (word_at level rest)))

bracketed_whole : (head : List ℕ) (args : List (List ℕ)) → IsWhole head → AllByRecursion IsWhole args → IsWhole (bracketed head args)
bracketed_whole head [] h a = h
bracketed_whole head (x ∷ args) h a =
    subst IsWhole (ap (λ l. 40 ∷ l) (append_assoc head (spaced (x ∷ args)) (41 ∷ [])))
    (opened (head ++ spaced (x ∷ args)) (inner_append head (spaced (x ∷ args)) (λ level rest. h (suc level) rest) (inner_spaced (x ∷ args) a)))

-- Words behind each other are told apart.
pub after : (xs ys zs : List ℕ) → xs ++ ys ≡ xs ++ zs → ys ≡ zs
after [] ys zs e = e
after (x ∷ xs) ys zs e = after xs ys zs cc

-- what ends the words: nothing, or a closing bracket
abbrev pub IsOver : List ℕ → Type 0
IsOver [] = Unit {0}
IsOver (b ∷ bs) = (b == 41) ≡ true

over_none : (rest : List ℕ) → IsOver rest → word_at 0 rest ≡ []
unfolding word_at
over_none [] h = refl
over_none (b ∷ rest) h = stops b (b == 41) (word_at 1 rest) (word_at 0 rest) refl h
  where
    stops : (b : ℕ) (t : Bool) (deeper same : List ℕ) → (b == 41) ≡ t → t ≡ true → word_by (b == 40) (b == 41) (b == 32) 0 b deeper same same ≡ []
    stops b false deeper same e h = absurd cc
    stops b true deeper same e h =
        let f : (b == 40) ≡ false = grind (arith, nat_tests) in
        ap (λ x. word_by x (b == 41) (b == 32) 0 b deeper same same) f ∙ ap (λ x. word_by false x (b == 32) 0 b deeper same same) e

spaced_none : (words : List (List ℕ)) (rest : List ℕ) → IsOver rest → word_at 0 (spaced words ++ rest) ≡ []
unfolding word_at
spaced_none [] rest h = over_none rest h
spaced_none (x ∷ words) rest h = refl

first_of : (x : List ℕ) (words : List (List ℕ)) (rest : List ℕ) → IsWhole x → IsOver rest → word_at 0 (x ++ (spaced words ++ rest)) ≡ x
first_of x words rest h o = h 0 (spaced words ++ rest) ∙ ap (λ l. x ++ l) (spaced_none words rest o) ∙ append-nil x

over_apart : (x : List ℕ) (words : List (List ℕ)) (rest : List ℕ) → IsOver rest → rest ≡ spaced (x ∷ words) ++ rest → ⊥
over_apart x words [] o e = cc
over_apart x words (b ∷ rest) o e = let f : b ≡ 32 = cc in let g = ap (λ n. n == 41) f in absurd (cc)

pub one_words : (xs ys : List (List ℕ)) (rest : List ℕ) → AllByRecursion IsWhole xs → AllByRecursion IsWhole ys → IsOver rest → spaced xs ++ rest ≡ spaced ys ++ rest → xs ≡ ys
one_words [] [] rest h g o e = refl
one_words [] (y ∷ ys) rest h g o e = absurd (over_apart y ys rest o e)
one_words (x ∷ xs) [] rest h g o e = absurd (over_apart x xs rest o (sym e))
one_words (x ∷ xs) (y ∷ ys) rest h g o e =
    let f : x ++ (spaced xs ++ rest) ≡ y ++ (spaced ys ++ rest) = behind (x ++ (spaced xs ++ rest)) (y ++ (spaced ys ++ rest)) (sym (append_assoc (32 ∷ x) (spaced xs) rest) ∙ e ∙ append_assoc (32 ∷ y) (spaced ys) rest) in
    let same : x ≡ y = sym (first_of x xs rest h.0 o) ∙ ap (word_at 0) f ∙ first_of y ys rest g.0 o in
    let k = after y (spaced xs ++ rest) (spaced ys ++ rest) (ap (λ l. l ++ (spaced xs ++ rest)) (sym same) ∙ f) in
    ap (λ l. l ∷ xs) same ∙ ap (λ l. y ∷ l) (one_words xs ys rest h.1 g.1 o k)
  where
    behind : (a b : List ℕ) → 32 ∷ a ≡ 32 ∷ b → a ≡ b
    behind a b e = cc

pub one_joined : (x y : List ℕ) (xs ys : List (List ℕ)) (rest : List ℕ) → IsWhole x → IsWhole y → AllByRecursion IsWhole xs → AllByRecursion IsWhole ys → IsOver rest
    → x ++ (spaced xs ++ rest) ≡ y ++ (spaced ys ++ rest) → (x ≡ y) × (xs ≡ ys)
one_joined x y xs ys rest h g a b o e =
    let same : x ≡ y = sym (first_of x xs rest h o) ∙ ap (word_at 0) e ∙ first_of y ys rest g o in
    (same, one_words xs ys rest a b o (after y (spaced xs ++ rest) (spaced ys ++ rest) (ap (λ l. l ++ (spaced xs ++ rest)) (sym same) ∙ e)))

-- A head is told by its word.
abbrev tail_of : List ℕ → List ℕ
tail_of [] = []
tail_of (b ∷ bs) = bs

abbrev var_of : Option (List ℕ × List ℕ) → RawHead
var_of None = Param 0
var_of (Some parts) = Var parts.0 (digits_on 0 parts.1)

abbrev numbered_by : Bool → ℕ → RawHead
numbered_by true n = Param n
numbered_by false n = Field n

abbrev numbered : List ℕ → RawHead
numbered [] = Param 0
numbered (b ∷ bs) = numbered_by (b == 35) (digits_on 0 bs)

abbrev special_of : Place → List ℕ → RawHead
special_of p.Equation bytes = var_of (cut bytes)
special_of p.Body bytes = numbered bytes
special_of p.Value bytes = Param 0

abbrev head_by : Bool → Place → List ℕ → RawHead
head_by true place bytes = Name bytes
head_by false place bytes = special_of place bytes

abbrev head_of : Place → List ℕ → RawHead
head_of place bytes = head_by (is_word_of_letters bytes) place bytes

dotted : (sort index : List ℕ) → list_all is_name_byte (sort ++ 46 ∷ index) ≡ false
dotted [] index = refl
dotted (b ∷ sort) index = both_false (is_name_byte b) (list_all is_name_byte (sort ++ 46 ∷ index)) (dotted sort index)
  where
    both_false : (a c : Bool) → c ≡ false → (a && c) ≡ false
    both_false true c h = h
    both_false false c h = refl

not_letters : (sort index : List ℕ) → is_word_of_letters (sort ++ 46 ∷ index) ≡ false
not_letters [] index = refl
not_letters (b ∷ sort) index = by (is_letter b) (list_all is_name_byte (sort ++ 46 ∷ index)) (dotted sort index)
  where
    by : (a c : Bool) → c ≡ false → (a && c) ≡ false
    by true c h = h
    by false c h = refl

value : (n : ℕ) → n < 2 ^ 32 → digits_on 0 (decimal n) ≡ n
value n h = (decimal_numeral n (omega arith)).1

pub head_back : (place : Place) (head : RawHead) (alone : Bool) → head_fits Kept place head alone ≡ true → head_of place (head_spelling head) ≡ head
head_back place (Name name) alone h = ap (λ t. head_by t place name) (both (is_word_of_letters name) (within Kept 32 (length name)) h).0
head_back p.Equation (Var sort index) true h =
    let q = both (is_name_in Kept sort) (nat_lt index (2 ^ 32)) h in
    let letters = (both (is_word_of_letters sort) (within Kept 32 (length sort)) q.0).0 in
    ap (λ t. head_by t p.Equation (sort ++ 46 ∷ decimal index)) (not_letters sort (decimal index))
    ∙ ap var_of (cut_at_dot sort (decimal index) (all_named sort letters)) ∙ ap (λ n. Var sort n) (value index (less_of index (2 ^ 32) q.1))
head_back p.Body (Param n) true h = ap (λ m. Param m) (value n (less_of n (2 ^ 32) h))
head_back p.Body (Field n) true h = ap (λ m. Field m) (value n (less_of n (2 ^ 32) h))
head_back p.Equation (Var sort index) false h = absurd cc
head_back p.Body (Param n) false h = absurd cc
head_back p.Body (Field n) false h = absurd cc
head_back p.Equation (Param n) alone h = absurd cc
head_back p.Equation (Field n) alone h = absurd cc
head_back p.Body (Var sort index) alone h = absurd cc
head_back p.Value (Var sort index) alone h = absurd cc
head_back p.Value (Param n) alone h = absurd cc
head_back p.Value (Field n) alone h = absurd cc

one_head : (place : Place) (head other : RawHead) (alone also : Bool) → head_fits Kept place head alone ≡ true → head_fits Kept place other also ≡ true → head_spelling head ≡ head_spelling other
    → head ≡ other
one_head place head other alone also h g e = sym (head_back place head alone h) ∙ ap (head_of place) e ∙ head_back place other also g

pub solid_plain : (bytes : List ℕ) → is_solid bytes ≡ true → list_all is_plain bytes ≡ true
unfolding is_solid
solid_plain [] h = refl
solid_plain (b ∷ bytes) h = h

pub alone_of : (place : Place) (head : RawHead) (alone : Bool) → head_fits Kept place head alone ≡ true → head_fits Kept place head true ≡ true
alone_of place (Name name) alone h = h
alone_of place head true h = h
alone_of p.Equation (Var sort index) false h = absurd cc
alone_of p.Body (Var sort index) false h = absurd cc
alone_of p.Value (Var sort index) false h = absurd cc
alone_of p.Equation (Param index) false h = absurd cc
alone_of p.Body (Param index) false h = absurd cc
alone_of p.Value (Param index) false h = absurd cc
alone_of p.Equation (Field index) false h = absurd cc
alone_of p.Body (Field index) false h = absurd cc
alone_of p.Value (Field index) false h = absurd cc

pub head_plain : (place : Place) (head : RawHead) (alone : Bool) → head_fits Kept place head alone ≡ true → list_all is_plain (head_spelling head) ≡ true
head_plain place head alone h = solid_plain (head_spelling head) (head_atom Kept place head (alone_of place head alone h)).solid

-- Terms. What fits of a term is what fits of its head and of its arguments.
pub record Fits (place : Place) (root : RawHead) (terms : List RawTerm) : Type 0 where
  pub head : head_fits Kept place root (is_empty (map (nodes_fit Kept place) terms)) ≡ true
  pub args : list_all (λ b. b) (map (nodes_fit Kept place) terms) ≡ true

fits_by : (place : Place) (head : RawHead) (terms : List RawTerm) → node_fits Kept place (record { head = head; args = map (nodes_fit Kept place) terms }) ≡ true → Fits place head terms
fits_by place head terms h =
    let f = both (head_fits Kept place head (is_empty (map (nodes_fit Kept place) terms))) _ h in
    record { head = f.0; args = (both (nat_le (length (map (nodes_fit Kept place) terms)) 8) (list_all (λ b. b) (map (nodes_fit Kept place) terms)) f.1).1 }

abbrev term_of : RawHead → List RawTerm → RawTerm
term_of head terms = let layer : RawTerm-F RawTerm = record { head = head; args = terms } in roll-RawTerm layer

rolled_fits : (place : Place) (head : RawHead) (terms : List RawTerm) → nodes_fit Kept place (term_of head terms) ≡ true → Fits place head terms
rolled_fits place head terms h = fits_by place head terms (sym (fold-roll-RawTerm Bool (node_fits Kept place) (record { head = head; args = terms })) ∙ h)

rolled_text : (head : RawHead) (terms : List RawTerm) → arg_spelling (term_of head terms) ≡ bracketed (head_spelling head) (map arg_spelling terms)
rolled_text head terms = fold-roll-RawTerm (List ℕ) arg_step (record { head = head; args = terms })

-- Each argument is taken whole.
abbrev WholeArg : RawTerm → Type 0
WholeArg term = (place : Place) → nodes_fit Kept place term ≡ true → IsWhole (arg_spelling term)

whole_args : (place : Place) (terms : List RawTerm) → AllByRecursion WholeArg terms → list_all (λ b. b) (map (nodes_fit Kept place) terms) ≡ true → AllByRecursion IsWhole (map arg_spelling terms)
whole_args place [] h f = tt
whole_args place (x ∷ terms) h f = let q = both (nodes_fit Kept place x) (list_all (λ b. b) (map (nodes_fit Kept place) terms)) f in (h.0 place q.0, whole_args place terms h.1 q.1)

whole_by : (head : RawHead) (terms : List RawTerm) → AllByRecursion WholeArg terms → WholeArg (term_of head terms)
whole_by head terms all = λ place fits.
    let f = rolled_fits place head terms fits in
    subst IsWhole (sym (rolled_text head terms))
    (bracketed_whole (head_spelling head) (map arg_spelling terms) (plain_whole (head_spelling head) (head_plain place head _ f.head)) (whole_args place terms all f.args))

all_whole_of : (pairs : List ((t : RawTerm) × WholeArg t)) → AllByRecursion WholeArg (map (λ q. q.0) pairs)
all_whole_of [] = tt
all_whole_of (pair ∷ pairs) = (pair.1, all_whole_of pairs)

whole_step : (y : RawTerm-F ((t : RawTerm) × WholeArg t)) → WholeArg (roll-RawTerm (map-RawTerm ((t : RawTerm) × WholeArg t) RawTerm (λ q. q.0) y))
whole_step y = whole_by y.head (map (λ q. q.0) y.args) (all_whole_of y.args)

pub whole_arg : (term : RawTerm) → WholeArg term
whole_arg = ind-RawTerm WholeArg (λ x y is. subst (λ z. WholeArg (roll-RawTerm z)) is (whole_step y))

all_whole : (terms : List RawTerm) → AllByRecursion WholeArg terms
all_whole [] = tt
all_whole (x ∷ terms) = (whole_arg x, all_whole terms)

-- Each is told by its word.
abbrev OneArg : RawTerm → Type 0
OneArg term = (place : Place) (other : RawTerm) → nodes_fit Kept place term ≡ true → nodes_fit Kept place other ≡ true → arg_spelling term ≡ arg_spelling other → term ≡ other

one_args : (place : Place) (terms others : List RawTerm) → AllByRecursion OneArg terms → list_all (λ b. b) (map (nodes_fit Kept place) terms) ≡ true
    → list_all (λ b. b) (map (nodes_fit Kept place) others) ≡ true → map arg_spelling terms ≡ map arg_spelling others → terms ≡ others
one_args place [] [] all f g e = refl
one_args place [] (y ∷ others) all f g e = absurd cc
one_args place (x ∷ terms) [] all f g e = absurd cc
one_args place (x ∷ terms) (y ∷ others) all f g e =
    let q = both (nodes_fit Kept place x) (list_all (λ b. b) (map (nodes_fit Kept place) terms)) f in
    let r = both (nodes_fit Kept place y) (list_all (λ b. b) (map (nodes_fit Kept place) others)) g in
    let same : arg_spelling x ≡ arg_spelling y = cc in
    let more : map arg_spelling terms ≡ map arg_spelling others = cc in
    ap (λ t. t ∷ terms) (all.0 place y q.0 r.0 same) ∙ ap (λ l. y ∷ l) (one_args place terms others all.1 q.1 r.1 more)

not_bracket : (bytes more : List ℕ) → list_all is_plain bytes ≡ true → bytes ≡ 40 ∷ more → ⊥
not_bracket bytes more h e = let f = ap (list_all is_plain) e in cc

one_layer : (place : Place) (head other : RawHead) (terms others : List RawTerm) → AllByRecursion OneArg terms → Fits place head terms → Fits place other others
    → bracketed (head_spelling head) (map arg_spelling terms) ≡ bracketed (head_spelling other) (map arg_spelling others) → term_of head terms ≡ term_of other others
one_layer place head other [] [] all f g e = ap (λ h. term_of h []) (one_head place head other true true f.head g.head e)
one_layer place head other [] (y ∷ others) all f g e = absurd (not_bracket (head_spelling head) _ (head_plain place head true f.head) e)
one_layer place head other (x ∷ terms) [] all f g e = absurd (not_bracket (head_spelling other) _ (head_plain place other true g.head) (sym e))
one_layer place head other (x ∷ terms) (y ∷ others) all f g e =
    let xs = map arg_spelling (x ∷ terms) in let ys = map arg_spelling (y ∷ others) in
    let q = one_joined (head_spelling head) (head_spelling other) xs ys (41 ∷ [])
    (plain_whole (head_spelling head) (head_plain place head false f.head)) (plain_whole (head_spelling other) (head_plain place other false g.head))
    (whole_args place (x ∷ terms) (all_whole (x ∷ terms)) f.args) (whole_args place (y ∷ others) (all_whole (y ∷ others)) g.args) refl
    (inside (head_spelling head ++ (spaced xs ++ 41 ∷ [])) (head_spelling other ++ (spaced ys ++ 41 ∷ [])) e) in
    ap (λ h. term_of h (x ∷ terms)) (one_head place head other false false f.head g.head q.0)
    ∙ ap (λ ts. term_of other ts) (one_args place (x ∷ terms) (y ∷ others) all f.args g.args q.1)
  where
    inside : (a b : List ℕ) → 40 ∷ a ≡ 40 ∷ b → a ≡ b
    inside a b e = cc

unrolled : (term : RawTerm) → term_of (out-RawTerm term).head (out-RawTerm term).args ≡ term
unrolled term = roll-out-RawTerm term

one_by : (head : RawHead) (terms : List RawTerm) → AllByRecursion OneArg terms → OneArg (term_of head terms)
one_by head terms all = λ place other h g e.
    let oh = (out-RawTerm other).head in let os = (out-RawTerm other).args in
    let u = unrolled other in
    one_layer place head oh terms os all (rolled_fits place head terms h) (rolled_fits place oh os (subst (λ t. nodes_fit Kept place t ≡ true) (sym u) g))
    (sym (rolled_text head terms) ∙ e ∙ ap arg_spelling (sym u) ∙ rolled_text oh os) ∙ u

all_one_of : (pairs : List ((t : RawTerm) × OneArg t)) → AllByRecursion OneArg (map (λ q. q.0) pairs)
all_one_of [] = tt
all_one_of (pair ∷ pairs) = (pair.1, all_one_of pairs)

one_step : (y : RawTerm-F ((t : RawTerm) × OneArg t)) → OneArg (roll-RawTerm (map-RawTerm ((t : RawTerm) × OneArg t) RawTerm (λ q. q.0) y))
one_step y = one_by y.head (map (λ q. q.0) y.args) (all_one_of y.args)

pub one_arg : (term : RawTerm) → OneArg term
one_arg = ind-RawTerm OneArg (λ x y is. subst (λ z. OneArg (roll-RawTerm z)) is (one_step y))

all_one : (terms : List RawTerm) → AllByRecursion OneArg terms
all_one [] = tt
all_one (x ∷ terms) = (one_arg x, all_one terms)

-- A term by itself.
pub term_fits : (place : Place) (term : RawTerm) → nodes_fit Kept place term ≡ true → Fits place (out-RawTerm term).head (out-RawTerm term).args
term_fits place term h = fits_by place (out-RawTerm term).head (out-RawTerm term).args (sym (fold_out-RawTerm Bool (node_fits Kept place) term) ∙ h)

pub whole_term : (place : Place) (term : RawTerm) → nodes_fit Kept place term ≡ true → AllByRecursion IsWhole (term_words term)
whole_term place term h =
    let head = (out-RawTerm term).head in let args = (out-RawTerm term).args in let f = term_fits place term h in
    (plain_whole (head_spelling head) (head_plain place head _ f.head), whole_args place args (all_whole args) f.args)

pub one_term : (place : Place) (term other : RawTerm) → nodes_fit Kept place term ≡ true → nodes_fit Kept place other ≡ true → term_words term ≡ term_words other → term ≡ other
one_term place term other h g e =
    let head = (out-RawTerm term).head in let args = (out-RawTerm term).args in let f = term_fits place term h in
    let oh = (out-RawTerm other).head in let os = (out-RawTerm other).args in let k = term_fits place other g in
    let same : head_spelling head ≡ head_spelling oh = cc in
    let more : map arg_spelling args ≡ map arg_spelling os = cc in
    sym (unrolled term) ∙ ap (λ x. term_of x args) (one_head place head oh _ _ f.head k.head same)
    ∙ ap (λ ts. term_of oh ts) (one_args place args os (all_one args) f.args k.args more) ∙ unrolled other

pub one_row : (words others : List (List ℕ)) → 0 < length words → 0 < length others → AllByRecursion IsWhole words → AllByRecursion IsWhole others → joined words ≡ joined others → words ≡ others
one_row [] others h g a b e = absurd (omega arith)
one_row (x ∷ words) [] h g a b e = absurd (omega arith)
one_row (x ∷ words) (y ∷ others) h g a b e =
    let q = one_joined x y words others [] a.0 b.0 a.1 b.1 tt (ap (λ l. x ++ l) (append-nil (spaced words)) ∙ e ∙ sym (ap (λ l. y ++ l) (append-nil (spaced others)))) in
    ap (λ w. w ∷ words) q.0 ∙ ap (λ ws. y ∷ ws) q.1

pub one_term_law : OneTerm
one_term_law place term other h g e =
    one_term place term other h.nodes g.nodes
    (one_row (term_words term) (term_words other) (omega arith) (omega arith) (whole_term place term h.nodes) (whole_term place other g.nodes) e)
