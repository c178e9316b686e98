-- A line is told by its bytes, in the form of the text's version.
use Rattle.std.proofs.Common.{◌≡◌, ℕ, ◌<◌, ◌^◌, Bool, true, false, ◌==◌, List, [], ◌∷◌, ◌++◌, drop, Option, Some, None, refl, ap, sym, subst, ◌∙◌, arith, map, length, get_or, nat_lt, codes, decimal}
use Rattle.std.proofs.lemmas.Bool.Decides.{nat_tests}
use Rattle.std.proofs.lemmas.Fmt.{decimal_injective}
use Rattle.std.proofs.lemmas.List.{append-nil}
use Rattle.std.specs.Str.{bytes_eq}
use Rattle.std.specs.List.{list_all, AllByRecursion}
use Rattle.law_lines.specs.Pieces.{is_plain}
use Rattle.law_lines.specs.declared.raw.RawHead.{RawHead}
use Rattle.law_lines.specs.declared.raw.RawHead.TheVariants.{Param}
use Rattle.law_lines.specs.declared.raw.RawTerm.TheOpen.{RawTerm-F}
use Rattle.law_lines.specs.declared.raw.RawTerm.{RawTerm}
use Rattle.law_lines.specs.declared.raw.RawTerm.TheFolds.{fold_out-RawTerm}
use Rattle.law_lines.specs.declared.raw.RawTerm.TheViews.{out-RawTerm, roll-RawTerm}
use Rattle.law_lines.specs.declared.raw.RawLine.{RawLine}
use Rattle.law_lines.specs.declared.raw.RawLine.TheVariants as l
use Rattle.law_lines.specs.declared.shape.Shape.{Shape}
use Rattle.law_lines.specs.declared.shape.Shape.TheVariants as s
use Rattle.law_lines.specs.declared.stage.Version.{Version}
use Rattle.law_lines.specs.declared.stage.Version.TheVariants.{First, Second, Third}
use Rattle.law_lines.specs.declared.stage.Key.{Key}
use Rattle.law_lines.specs.declared.stage.Key.TheVariants as key
use Rattle.law_lines.specs.declared.want.Bounds.TheVariants.{Kept}
use Rattle.law_lines.specs.declared.want.Ending.TheVariants as ending
use Rattle.law_lines.specs.declared.want.Mark.TheVariants.{Equals}
use Rattle.law_lines.specs.declared.want.Place.{Place}
use Rattle.law_lines.specs.declared.want.Place.TheVariants as p
use Rattle.law_lines.specs.Spelling.{arg_spelling, arg_step, bracketed, head_spelling, joined, line_spelling, line_words, spaced, term_words}
use Rattle.law_lines.specs.Terms.{IsTerm, head_fits, is_name_in, nodes_fit}
use Rattle.law_lines.specs.Lines.{AreValues, IsLine}
use Rattle.law_lines.specs.Order.{shape_of}
use Rattle.law_lines.specs.Stages.{IsOfVersion, key_text, line_key}
use Rattle.law_lines.specs.Walk.{key_of}
use Rattle.law_lines.proofs.RowSteps.{both}
use Rattle.law_lines.proofs.Again.{head_atom, name_solid, number_solid}
use Rattle.law_lines.proofs.Orders.{con_of, fun_of, sort_of}
use Rattle.law_lines.proofs.LineWords.{Covers, words_hold}
use Rattle.law_lines.proofs.OneTerm.{IsWhole, alone_of, one_arg, one_joined, one_term, plain_whole, solid_plain, term_fits, whole_arg, whole_term}
use Rattle.law_lines.proofs.Clean.{is_graphic}

-- each word of a line is taken whole
wholes : Covers IsWhole
wholes = record {
  text = λ bytes h. plain_whole bytes (both (list_all is_graphic bytes) (list_all is_plain bytes) (both (nat_lt 0 (length bytes)) _ h).1).1;
  number = λ n h. plain_whole (decimal n) (solid_plain (decimal n) (number_solid n h));
  name = λ name h. plain_whole name (solid_plain name (name_solid name h));
  arg = λ term h. whole_arg term p.Value h.nodes;
  term = λ place term h. whole_term place term h.nodes;
}

-- a line's key is its first word
abbrev pub rest_of : List (List ℕ) → List (List ℕ)
rest_of [] = []
rest_of (w ∷ ws) = ws

pub key_words : (line : RawLine) → line_words line ≡ key_text (line_key line) ∷ rest_of (line_words line)
key_words l.Head = refl
key_words l.Head2 = refl
key_words l.Head3 = refl
key_words (l.Vars n) = refl
key_words (l.Size n) = refl
key_words (l.Width n) = refl
key_words (l.Budget n) = refl
key_words (l.Pairs n) = refl
key_words l.PoolsGiven = refl
key_words (l.PoolsSeed seed height count) = refl
key_words (l.SortLine name) = refl
key_words (l.SortLine2 name vars width) = refl
key_words (l.ConLine name args) = refl
key_words (l.ConLine3 weight name args) = refl
key_words (l.FunLine name args result) = refl
key_words (l.FunLine3 weight name args result) = refl
key_words (l.MatchLine n) = refl
key_words (l.BodyLine body) = refl
key_words (l.CaseLine con body) = refl
key_words (l.Explore names) = refl
key_words (l.Background left right) = refl
key_words l.Pool = refl
key_words (l.Values sort values) = refl
key_words l.End = refl

rest_hold : (P : List ℕ → Type 0) (word : List ℕ) (words : List (List ℕ)) → words ≡ word ∷ rest_of words → AllByRecursion P words → P word × AllByRecursion P (rest_of words)
rest_hold P word [] e h = absurd cc
rest_hold P word (x ∷ words) e h = let f : x ≡ word = cc in (subst P f h.0, h.1)

pub one_words_of : (line other : RawLine) → IsLine Kept line → IsLine Kept other → line_spelling line ≡ line_spelling other → line_words line ≡ line_words other
one_words_of line other h g e =
    let a = rest_hold IsWhole (key_text (line_key line)) (line_words line) (key_words line) (words_hold IsWhole wholes line h) in
    let b = rest_hold IsWhole (key_text (line_key other)) (line_words other) (key_words other) (words_hold IsWhole wholes other g) in
    let q = one_joined (key_text (line_key line)) (key_text (line_key other)) (rest_of (line_words line)) (rest_of (line_words other)) [] a.0 b.0 a.1 b.1 tt
    (text line ∙ e ∙ sym (text other)) in
    key_words line ∙ ap (λ w. w ∷ rest_of (line_words line)) q.0 ∙ ap (λ ws. key_text (line_key other) ∷ ws) q.1 ∙ sym (key_words other)
  where
    text : (line : RawLine) → key_text (line_key line) ++ (spaced (rest_of (line_words line)) ++ []) ≡ line_spelling line
    text line = ap (λ l. key_text (line_key line) ++ l) (append-nil (spaced (rest_of (line_words line)))) ∙ sym (ap joined (key_words line))

-- The shape is told by the first two words.
abbrev head_shape : Bool → Bool → Shape
head_shape true second = s.Head
head_shape false true = s.Head2
head_shape false false = s.Head3

abbrev pools_shape : Bool → Shape
pools_shape true = s.PoolsGiven
pools_shape false = s.PoolsSeed

abbrev shape_by : Version → Option Key → List ℕ → Shape
shape_by version None second = s.End
shape_by version (Some key.Signature) second = head_shape (bytes_eq second (codes "1")) (bytes_eq second (codes "2"))
shape_by version (Some key.Vars) second = s.Vars
shape_by version (Some key.Size) second = s.Size
shape_by version (Some key.Width) second = s.Width
shape_by version (Some key.Budget) second = s.Budget
shape_by version (Some key.Pairs) second = s.Pairs
shape_by version (Some key.Pools) second = pools_shape (bytes_eq second (codes "given"))
shape_by version (Some key.Sort) second = sort_of version
shape_by version (Some key.Con) second = con_of version
shape_by version (Some key.Fun) second = fun_of version
shape_by version (Some key.Match) second = s.MatchLine
shape_by version (Some key.Body) second = s.BodyLine
shape_by version (Some key.Case) second = s.CaseLine
shape_by version (Some key.Explore) second = s.Explore
shape_by version (Some key.Background) second = s.Background
shape_by version (Some key.Pool) second = s.Pool
shape_by version (Some key.Values) second = s.Values
shape_by version (Some key.End) second = s.End

shape_from : Version → List (List ℕ) → Shape
shape_from version words = shape_by version (key_of (get_or words 0 [])) (get_or words 1 [])

shape_told : (version : Version) (line : RawLine) → IsOfVersion version line → shape_from version (line_words line) ≡ shape_of line
unfolding shape_from
shape_told version l.Head h = refl
shape_told version l.Head2 h = refl
shape_told version l.Head3 h = refl
shape_told version (l.Vars n) h = refl
shape_told version (l.Size n) h = refl
shape_told version (l.Width n) h = refl
shape_told version (l.Budget n) h = refl
shape_told version (l.Pairs n) h = refl
shape_told version l.PoolsGiven h = refl
shape_told version (l.PoolsSeed seed height count) h = refl
shape_told First (l.SortLine name) h = refl
shape_told Second (l.SortLine name) h = absurd cc
shape_told Third (l.SortLine name) h = absurd cc
shape_told First (l.SortLine2 name vars width) h = absurd cc
shape_told Second (l.SortLine2 name vars width) h = refl
shape_told Third (l.SortLine2 name vars width) h = refl
shape_told First (l.ConLine name args) h = refl
shape_told Second (l.ConLine name args) h = refl
shape_told Third (l.ConLine name args) h = absurd cc
shape_told First (l.ConLine3 weight name args) h = absurd cc
shape_told Second (l.ConLine3 weight name args) h = absurd cc
shape_told Third (l.ConLine3 weight name args) h = refl
shape_told First (l.FunLine name args result) h = refl
shape_told Second (l.FunLine name args result) h = refl
shape_told Third (l.FunLine name args result) h = absurd cc
shape_told First (l.FunLine3 weight name args result) h = absurd cc
shape_told Second (l.FunLine3 weight name args result) h = absurd cc
shape_told Third (l.FunLine3 weight name args result) h = refl
shape_told version (l.MatchLine n) h = refl
shape_told version (l.BodyLine body) h = refl
shape_told version (l.CaseLine con body) h = refl
shape_told version (l.Explore names) h = refl
shape_told version (l.Background left right) h = refl
shape_told version l.Pool h = refl
shape_told version (l.Values sort values) h = refl
shape_told version l.End h = refl

pub one_shape : (version : Version) (line other : RawLine) → IsOfVersion version line → IsOfVersion version other → line_words line ≡ line_words other → shape_of line ≡ shape_of other
one_shape version line other h g e = sym (shape_told version line h) ∙ ap (shape_from version) e ∙ shape_told version other g

-- What a line holds, and the line of a shape that holds it.
abbrev numbers_of : RawLine → List ℕ
numbers_of (l.Vars n) = n ∷ []
numbers_of (l.Size n) = n ∷ []
numbers_of (l.Width n) = n ∷ []
numbers_of (l.Budget n) = n ∷ []
numbers_of (l.Pairs n) = n ∷ []
numbers_of (l.PoolsSeed seed height count) = seed ∷ height ∷ count ∷ []
numbers_of (l.SortLine2 name vars width) = vars ∷ width ∷ []
numbers_of (l.ConLine3 weight name args) = weight ∷ []
numbers_of (l.FunLine3 weight name args result) = weight ∷ []
numbers_of (l.MatchLine n) = n ∷ []
numbers_of line = []

abbrev names_of : RawLine → List (List ℕ)
names_of (l.SortLine name) = name ∷ []
names_of (l.SortLine2 name vars width) = name ∷ []
names_of (l.ConLine name args) = name ∷ args
names_of (l.ConLine3 weight name args) = name ∷ args
names_of (l.FunLine name args result) = name ∷ result ∷ args
names_of (l.FunLine3 weight name args result) = name ∷ result ∷ args
names_of (l.CaseLine con body) = con ∷ []
names_of (l.Explore names) = names
names_of (l.Values sort values) = sort ∷ []
names_of line = []

abbrev terms_of : RawLine → List RawTerm
terms_of (l.BodyLine body) = body ∷ []
terms_of (l.CaseLine con body) = body ∷ []
terms_of (l.Background left right) = left ∷ right ∷ []
terms_of (l.Values sort values) = values
terms_of line = []

any_term : RawTerm
any_term = let layer : RawTerm-F RawTerm = record { head = Param 0; args = [] } in roll-RawTerm layer

abbrev number_in : RawLine → ℕ → ℕ
number_in line k = get_or (numbers_of line) k 0

abbrev name_in : RawLine → ℕ → List ℕ
name_in line k = get_or (names_of line) k []

abbrev term_in : RawLine → ℕ → RawTerm
term_in line k = get_or (terms_of line) k any_term

abbrev more_names : ℕ → RawLine → List (List ℕ)
more_names k line = drop k (names_of line)

abbrev built : Shape → RawLine → RawLine
built s.Head line = l.Head
built s.Head2 line = l.Head2
built s.Head3 line = l.Head3
built s.Vars line = l.Vars (number_in line 0)
built s.Size line = l.Size (number_in line 0)
built s.Width line = l.Width (number_in line 0)
built s.Budget line = l.Budget (number_in line 0)
built s.Pairs line = l.Pairs (number_in line 0)
built s.PoolsGiven line = l.PoolsGiven
built s.PoolsSeed line = l.PoolsSeed (number_in line 0) (number_in line 1) (number_in line 2)
built s.SortLine line = l.SortLine (name_in line 0)
built s.SortLine2 line = l.SortLine2 (name_in line 0) (number_in line 0) (number_in line 1)
built s.ConLine line = l.ConLine (name_in line 0) (more_names 1 line)
built s.ConLine3 line = l.ConLine3 (number_in line 0) (name_in line 0) (more_names 1 line)
built s.FunLine line = l.FunLine (name_in line 0) (more_names 2 line) (name_in line 1)
built s.FunLine3 line = l.FunLine3 (number_in line 0) (name_in line 0) (more_names 2 line) (name_in line 1)
built s.MatchLine line = l.MatchLine (number_in line 0)
built s.BodyLine line = l.BodyLine (term_in line 0)
built s.CaseLine line = l.CaseLine (name_in line 0) (term_in line 0)
built s.Explore line = l.Explore (names_of line)
built s.Background line = l.Background (term_in line 0) (term_in line 1)
built s.Pool line = l.Pool
built s.Values line = l.Values (name_in line 0) (terms_of line)
built s.End line = l.End

built_same : (line : RawLine) → built (shape_of line) line ≡ line
built_same l.Head = refl
built_same l.Head2 = refl
built_same l.Head3 = refl
built_same (l.Vars n) = refl
built_same (l.Size n) = refl
built_same (l.Width n) = refl
built_same (l.Budget n) = refl
built_same (l.Pairs n) = refl
built_same l.PoolsGiven = refl
built_same (l.PoolsSeed seed height count) = refl
built_same (l.SortLine name) = refl
built_same (l.SortLine2 name vars width) = refl
built_same (l.ConLine name args) = refl
built_same (l.ConLine3 weight name args) = refl
built_same (l.FunLine name args result) = refl
built_same (l.FunLine3 weight name args result) = refl
built_same (l.MatchLine n) = refl
built_same (l.BodyLine body) = refl
built_same (l.CaseLine con body) = refl
built_same (l.Explore names) = refl
built_same (l.Background left right) = refl
built_same l.Pool = refl
built_same (l.Values sort values) = refl
built_same l.End = refl

one_number : (n m : ℕ) → n < 2 ^ 63 → m < 2 ^ 63 → decimal n ≡ decimal m → n ≡ m
one_number n m h g e = decimal_injective n m (omega arith) (omega arith) e

one_values : (terms others : List RawTerm) → AreValues Kept terms → AreValues Kept others → map arg_spelling terms ≡ map arg_spelling others → terms ≡ others
one_values [] [] h g e = refl
one_values [] (y ∷ others) h g e = absurd cc
one_values (x ∷ terms) [] h g e = absurd cc
one_values (x ∷ terms) (y ∷ others) h g e =
    let same : arg_spelling x ≡ arg_spelling y = cc in
    let more : map arg_spelling terms ≡ map arg_spelling others = cc in
    ap (λ t. t ∷ terms) (one_arg x p.Value y h.0.nodes g.0.nodes same) ∙ ap (λ ts. y ∷ ts) (one_values terms others h.1 g.1 more)

-- Words on both sides of a fixed word that stands nowhere else.
abbrev IsNot : List ℕ → List ℕ → Type 0
IsNot mark word = word ≡ mark → ⊥

one_split : (mark : List ℕ) (xs ys us vs : List (List ℕ)) → AllByRecursion (IsNot mark) xs → AllByRecursion (IsNot mark) ys → xs ++ mark ∷ us ≡ ys ++ mark ∷ vs → (xs ≡ ys) × (us ≡ vs)
one_split mark [] [] us vs h g e = (refl, cc)
one_split mark [] (y ∷ ys) us vs h g e = absurd (g.0 (first_is mark y us (ys ++ mark ∷ vs) e))
  where
    first_is : (a b : List ℕ) (us vs : List (List ℕ)) → a ∷ us ≡ b ∷ vs → b ≡ a
    first_is a b us vs e = cc
one_split mark (x ∷ xs) [] us vs h g e = absurd (h.0 (first_is x mark (xs ++ mark ∷ us) vs e))
  where
    first_is : (a b : List ℕ) (us vs : List (List ℕ)) → a ∷ us ≡ b ∷ vs → a ≡ b
    first_is a b us vs e = cc
one_split mark (x ∷ xs) (y ∷ ys) us vs h g e =
    let f : x ≡ y = cc in let k : xs ++ mark ∷ us ≡ ys ++ mark ∷ vs = cc in
    let q = one_split mark xs ys us vs h.1 g.1 k in (ap (λ w. w ∷ xs) f ∙ ap (λ ws. y ∷ ws) q.0, q.1)

names_no_arrow : (names : List (List ℕ)) → list_all (is_name_in Kept) names ≡ true → AllByRecursion (IsNot (codes "->")) names
names_no_arrow [] h = tt
names_no_arrow (x ∷ names) h =
    let q = both (is_name_in Kept x) (list_all (is_name_in Kept) names) h in ((λ e. let f = sym (ap (is_name_in Kept) e) ∙ q.0 in absurd cc), names_no_arrow names q.1)

head_no_equals : (place : Place) (head : RawHead) (alone : Bool) → head_fits Kept place head alone ≡ true → IsNot (codes "=") (head_spelling head)
head_no_equals place head alone h = λ e.
    let f = sym (ap (λ w. bytes_eq w (codes "=")) e) ∙ (head_atom Kept place head (alone_of place head alone h)).no_mark (ending.Mark Equals) tt in cc

layer_no_equals : (place : Place) (head : RawHead) (alone : Bool) (args : List (List ℕ)) → head_fits Kept place head alone ≡ true → IsNot (codes "=") (bracketed (head_spelling head) args)
layer_no_equals place head alone [] h = head_no_equals place head alone h
layer_no_equals place head alone (x ∷ args) h = λ e. differ 40 61 refl (ap (λ w. get_or w 0 0) e)
  where
    differ : (a b : ℕ) → (a == b) ≡ false → a ≡ b → ⊥
    differ a b h e = grind (arith, nat_tests)

arg_no_equals : (place : Place) (term : RawTerm) → nodes_fit Kept place term ≡ true → IsNot (codes "=") (arg_spelling term)
arg_no_equals place term h =
    let f = term_fits place term h in
    subst (IsNot (codes "=")) (sym (fold_out-RawTerm (List ℕ) arg_step term)) (layer_no_equals place (out-RawTerm term).head _ (map arg_spelling (out-RawTerm term).args) f.head)

args_no_equals : (place : Place) (terms : List RawTerm) → list_all (λ b. b) (map (nodes_fit Kept place) terms) ≡ true → AllByRecursion (IsNot (codes "=")) (map arg_spelling terms)
args_no_equals place [] h = tt
args_no_equals place (x ∷ terms) h =
    let q = both (nodes_fit Kept place x) (list_all (λ b. b) (map (nodes_fit Kept place) terms)) h in (arg_no_equals place x q.0, args_no_equals place terms q.1)

term_no_equals : (place : Place) (term : RawTerm) → IsTerm Kept place term → AllByRecursion (IsNot (codes "=")) (term_words term)
term_no_equals place term h =
    let f = term_fits place term h.nodes in (head_no_equals place (out-RawTerm term).head _ f.head, args_no_equals place (out-RawTerm term).args f.args)

at : (k : ℕ) (words others : List (List ℕ)) → words ≡ others → get_or words k [] ≡ get_or others k []
at k words others e = ap (λ ws. get_or ws k []) e

behind : (k : ℕ) (words others : List (List ℕ)) → words ≡ others → drop k words ≡ drop k others
behind k words others e = ap (drop k) e

first_of : (xs ys : List (List ℕ)) → xs ≡ ys → get_or xs 0 [] ≡ get_or ys 0 []
first_of xs ys e = at 0 xs ys e

-- What a line holds is told by its words.
abbrev IsAs : RawLine → RawLine → Type 0
IsAs x y = IsLine Kept x → IsLine Kept y → line_words x ≡ line_words y → x ≡ y

number_at : (k n m : ℕ) (words others : List (List ℕ)) → get_or words k [] ≡ decimal n → get_or others k [] ≡ decimal m → n < 2 ^ 63 → m < 2 ^ 63 → words ≡ others → n ≡ m
number_at k n m words others a b h g e = one_number n m h g (sym a ∙ at k words others e ∙ b)

as_built : (x y : RawLine) → IsAs x (built (shape_of x) y)
as_built l.Head y = λ h g e. refl
as_built l.Head2 y = λ h g e. refl
as_built l.Head3 y = λ h g e. refl
as_built l.PoolsGiven y = λ h g e. refl
as_built l.Pool y = λ h g e. refl
as_built l.End y = λ h g e. refl
as_built (l.Vars n) y = λ h g e. ap l.Vars (number_at 1 n (number_in y 0) _ _ refl refl h g e)
as_built (l.Size n) y = λ h g e. ap l.Size (number_at 1 n (number_in y 0) _ _ refl refl h g e)
as_built (l.Width n) y = λ h g e. ap l.Width (number_at 1 n (number_in y 0) _ _ refl refl h g e)
as_built (l.Budget n) y = λ h g e. ap l.Budget (number_at 1 n (number_in y 0) _ _ refl refl h g e)
as_built (l.Pairs n) y = λ h g e. ap l.Pairs (number_at 1 n (number_in y 0) _ _ refl refl h g e)
as_built (l.MatchLine n) y = λ h g e. ap l.MatchLine (number_at 1 n (number_in y 0) _ _ refl refl h g e)
as_built (l.PoolsSeed seed height count) y = λ h g e.
    let a = number_at 2 seed (number_in y 0) _ _ refl refl h.0 g.0 e in
    let b = number_at 4 height (number_in y 1) _ _ refl refl h.1 g.1 e in
    let c = number_at 6 count (number_in y 2) _ _ refl refl h.2 g.2 e in
    ap (λ n. l.PoolsSeed n height count) a ∙ ap (λ n. l.PoolsSeed (number_in y 0) n count) b ∙ ap (λ n. l.PoolsSeed (number_in y 0) (number_in y 1) n) c
as_built (l.SortLine name) y = λ h g e. ap l.SortLine (at 1 _ _ e)
as_built (l.SortLine2 name vars width) y = λ h g e.
    let b = number_at 2 vars (number_in y 0) _ _ refl refl h.1 g.1 e in
    let c = number_at 3 width (number_in y 1) _ _ refl refl h.2 g.2 e in
    ap (λ w. l.SortLine2 w vars width) (at 1 _ _ e) ∙ ap (λ n. l.SortLine2 (name_in y 0) n width) b ∙ ap (λ n. l.SortLine2 (name_in y 0) (number_in y 0) n) c
as_built (l.ConLine name args) y = λ h g e. ap (λ w. l.ConLine w args) (at 1 _ _ e) ∙ ap (λ ws. l.ConLine (name_in y 0) ws) (behind 2 _ _ e)
as_built (l.ConLine3 weight name args) y = λ h g e.
    let a = number_at 1 weight (number_in y 0) _ _ refl refl h.0 g.0 e in
    ap (λ n. l.ConLine3 n name args) a ∙ ap (λ w. l.ConLine3 (number_in y 0) w args) (at 2 _ _ e) ∙ ap (λ ws. l.ConLine3 (number_in y 0) (name_in y 0) ws) (behind 3 _ _ e)
as_built (l.FunLine name args result) y = λ h g e.
    let q = one_split (codes "->") args (more_names 2 y) (result ∷ []) (name_in y 1 ∷ []) (names_no_arrow args h.1.names) (names_no_arrow (more_names 2 y) g.1.names) (behind 2 _ _ e) in
    ap (λ w. l.FunLine w args result) (at 1 _ _ e) ∙ ap (λ ws. l.FunLine (name_in y 0) ws result) q.0 ∙ ap (λ w. l.FunLine (name_in y 0) (more_names 2 y) w) (first_of _ _ q.1)
as_built (l.FunLine3 weight name args result) y = λ h g e.
    let a = number_at 1 weight (number_in y 0) _ _ refl refl h.0 g.0 e in
    let q = one_split (codes "->") args (more_names 2 y) (result ∷ []) (name_in y 1 ∷ []) (names_no_arrow args h.2.names) (names_no_arrow (more_names 2 y) g.2.names) (behind 3 _ _ e) in
    ap (λ n. l.FunLine3 n name args result) a ∙ ap (λ w. l.FunLine3 (number_in y 0) w args result) (at 2 _ _ e)
    ∙ ap (λ ws. l.FunLine3 (number_in y 0) (name_in y 0) ws result) q.0 ∙ ap (λ w. l.FunLine3 (number_in y 0) (name_in y 0) (more_names 2 y) w) (first_of _ _ q.1)
as_built (l.BodyLine body) y = λ h g e. ap l.BodyLine (one_term p.Body body (term_in y 0) h.nodes g.nodes (behind 2 _ _ e))
as_built (l.CaseLine con body) y = λ h g e.
    ap (λ w. l.CaseLine w body) (at 1 _ _ e) ∙ ap (λ t. l.CaseLine (name_in y 0) t) (one_term p.Body body (term_in y 0) h.1.nodes g.1.nodes (behind 3 _ _ e))
as_built (l.Explore names) y = λ h g e. ap l.Explore (behind 1 _ _ e)
as_built (l.Background left right) y = λ h g e.
    let q = one_split (codes "=") (term_words left) (term_words (term_in y 0)) (term_words right) (term_words (term_in y 1)) (term_no_equals p.Equation left h.0) (term_no_equals p.Equation (term_in y 0) g.0) (behind 1 _ _ e) in
    ap (λ t. l.Background t right) (one_term p.Equation left (term_in y 0) h.0.nodes g.0.nodes q.0) ∙ ap (λ t. l.Background (term_in y 0) t) (one_term p.Equation right (term_in y 1) h.1.nodes g.1.nodes q.1)
as_built (l.Values sort values) y = λ h g e. ap (λ w. l.Values w values) (at 1 _ _ e) ∙ ap (λ ts. l.Values (name_in y 0) ts) (one_values values (terms_of y) h.2 g.2 (behind 2 _ _ e))

pub one_line : (version : Version) (line other : RawLine) → IsOfVersion version line → IsOfVersion version other → IsLine Kept line → IsLine Kept other → line_spelling line ≡ line_spelling other
    → line ≡ other
one_line version line other v u h g e =
    let words = one_words_of line other h g e in
    let same = ap (λ s. built s other) (one_shape version line other v u words) ∙ built_same other in
    as_built line other h (subst (IsLine Kept) (sym same) g) (words ∙ ap line_words (sym same)) ∙ same
