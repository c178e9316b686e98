-- A line of a certificate is told by its bytes.
use Rattle.std.proofs.Common.{◌≡◌, ℕ, ◌<◌, ◌^◌, Bool, true, false, List, [], ◌∷◌, ◌++◌, Some, refl, ap, sym, ◌∙◌, arith, map, decimal, length, codes}
use Rattle.std.proofs.lemmas.Fmt.{decimal_injective}
use Rattle.std.proofs.lemmas.List.{append-nil}
use Rattle.std.specs.Str.{bytes_eq}
use Rattle.std.specs.List.{AllByRecursion, list_all}
use Rattle.law_lines.specs.Words.{is_digit}
use Rattle.law_lines.proofs.Numbers.{decimal_numeral}
use Rattle.law_lines.specs.declared.raw.RawTerm.{RawTerm}
use Rattle.law_lines.specs.declared.raw.RawLine.TheVariants as r
use Rattle.law_lines.specs.declared.stage.Version.TheVariants.{First}
use Rattle.law_lines.specs.declared.want.Place.TheVariants as place
use Rattle.law_lines.specs.Lines.{IsNumber}
use Rattle.law_lines.specs.Spelling.{joined, spaced, term_words}
use Rattle.law_lines.proofs.Again.{numeral_digits, numeral_some}
use Rattle.law_lines.proofs.OneLine.{one_line}
use Rattle.law_lines.proofs.OneTerm.{one_term_law}
use Rattle.law_lines.proofs.RowSteps.{both}
use Rattle.law_cert_text.specs.declared.cert.Mark.{Mark}
use Rattle.law_cert_text.specs.declared.cert.Mark.TheVariants.{Saturated, Spent, Aside, Plain}
use Rattle.law_sig.specs.declared.chain.Dir.{Dir}
use Rattle.law_sig.specs.declared.chain.Dir.TheVariants.{LeftToRight, RightToLeft}
use Rattle.law_cert_text.specs.declared.cert.RawBind.{RawBind}
use Rattle.law_cert_text.specs.declared.cert.RawStep.{RawStep}
use Rattle.law_cert_text.specs.declared.cert.RawValues.{RawValues}
use Rattle.law_cert_text.specs.declared.cert.Entry.{Entry}
use Rattle.law_cert_text.specs.declared.cert.Entry.TheVariants as e
use Rattle.law_cert_text.specs.declared.cert.TreeLine.TheVariants as n
use Rattle.law_cert_text.specs.declared.line.CertLine.{CertLine}
use Rattle.law_cert_text.specs.declared.line.CertLine.TheVariants as c
use Rattle.law_cert_text.specs.declared.line.Key.{Key}
use Rattle.law_cert_text.specs.declared.line.Key.TheVariants as k
use Rattle.law_cert_text.specs.Spelling.{bind_text, dir_text, dotted, equation_words, mark_text, pos_text, steps_of}
use Rattle.law_cert_text.specs.Certificates.{IsBind, IsEntry, IsIndex, IsWritten}
use Rattle.law_cert_text.specs.Words.{One, is_unspaced, row_text}
use Rattle.law_cert_text.specs.CertLines.{IsCertLine, key_of, key_text, line_key, line_text, tail_text}
use Rattle.law_cert_text.proofs.ArgFacts.{one_bind}
use Rattle.law_cert_text.proofs.PartFacts.{cut_once, dir_unspaced, pos_unspaced}
use Rattle.law_cert_text.proofs.RowFacts.{behind_row, follows_dots, index_undotted, one_number}
use Rattle.law_cert_text.proofs.TailFacts.{key_again, key_unspaced, line_parts, tail_behind}

one_behind : (xs ys : List ℕ) → 32 ∷ xs ≡ 32 ∷ ys → xs ≡ ys
one_behind xs ys e = cc

-- rows of parts
one_row : (A : Type 0) (P : A → Type 0) (text : A → List ℕ) → One A P text → (xs ys : List A) → AllByRecursion P xs → AllByRecursion P ys → row_text A text xs ≡ row_text A text ys → xs ≡ ys
one_row A P text one [] [] h g e = refl
one_row A P text one [] (y ∷ ys) h g e = absurd cc
one_row A P text one (x ∷ xs) [] h g e = absurd cc
one_row A P text one (x ∷ xs) (y ∷ ys) h g e =
    let q = one x y (row_text A text xs) (row_text A text ys) h.0 g.0 (behind_row (map text xs)) (behind_row (map text ys)) (one_behind (text x ++ row_text A text xs) (text y ++ row_text A text ys) e) in
    ap (λ z. z ∷ xs) q.0 ∙ ap (λ zs. y ∷ zs) (one_row A P text one xs ys h.1 g.1 q.1)

-- marks, directions and positions
abbrev mark_by : Bool → Bool → Bool → Mark
mark_by true spent aside = Saturated
mark_by false true aside = Spent
mark_by false false true = Aside
mark_by false false false = Plain

abbrev mark_from : List ℕ → Mark
mark_from bytes = mark_by (bytes_eq bytes (codes "saturated")) (bytes_eq bytes (codes "spent")) (bytes_eq bytes (codes "aside"))

mark_back : (mark : Mark) → mark_from (mark_text mark) ≡ mark
mark_back Saturated = refl
mark_back Spent = refl
mark_back Aside = refl
mark_back Plain = refl

any_unspaced : (mark : Mark) → is_unspaced (mark_text mark) ≡ true
any_unspaced Saturated = refl
any_unspaced Spent = refl
any_unspaced Aside = refl
any_unspaced Plain = refl

one_mark : One Mark (λ mark. Unit {0}) mark_text
one_mark x y b c h g hb hc e =
    let q = cut_once 32 (mark_text x) (mark_text y) b c (any_unspaced x) (any_unspaced y) hb hc e in (sym (mark_back x) ∙ ap mark_from q.0 ∙ mark_back y, q.1)

abbrev dir_by : Bool → Dir
dir_by true = LeftToRight
dir_by false = RightToLeft

dir_back : (dir : Dir) → dir_by (bytes_eq (dir_text dir) (codes "lr")) ≡ dir
dir_back LeftToRight = refl
dir_back RightToLeft = refl

same_dir : (x y : Dir) → dir_text x ≡ dir_text y → x ≡ y
same_dir x y e = sym (dir_back x) ∙ ap (λ l. dir_by (bytes_eq l (codes "lr"))) e ∙ dir_back y

one_dir : One Dir (λ dir. Unit {0}) dir_text
one_dir x y b c h g hb hc e = let q = cut_once 32 (dir_text x) (dir_text y) b c (dir_unspaced x h) (dir_unspaced y g) hb hc e in (same_dir x y q.0, q.1)

one_dotted : (xs ys : List ℕ) → AllByRecursion IsIndex xs → AllByRecursion IsIndex ys → dotted xs ≡ dotted ys → xs ≡ ys
one_dotted [] [] h g e = refl
one_dotted [] (y ∷ ys) h g e = absurd cc
one_dotted (x ∷ xs) [] h g e = absurd cc
one_dotted (x ∷ xs) (y ∷ ys) h g e =
    let f : decimal x ++ dotted xs ≡ decimal y ++ dotted ys = cc in
    let q = cut_once 46 (decimal x) (decimal y) (dotted xs) (dotted ys) (index_undotted x h.0) (index_undotted y g.0) (follows_dots xs) (follows_dots ys) f in
    ap (λ z. z ∷ xs) (decimal_injective x y (large x h.0) (large y g.0) q.0) ∙ ap (λ zs. y ∷ zs) (one_dotted xs ys h.1 g.1 q.1)
  where
    large : (m : ℕ) → m < 2 ^ 32 → m < 2 ^ 64
    large m h = omega arith

no_minus : (bytes rest : List ℕ) → list_all is_digit bytes ≡ true → 0 < length bytes → codes "-" ≡ bytes ++ rest → ⊥
no_minus [] rest h some e = omega arith
no_minus (b ∷ bytes) rest h some e = let q = both (is_digit b) (list_all is_digit bytes) h in let f : 45 ≡ b = cc in let g = ap is_digit f in absurd (cc)

no_root : (m : ℕ) (ms : List ℕ) → IsIndex m → codes "-" ≡ pos_text (m ∷ ms) → ⊥
no_root m ms h e = let d = (decimal_numeral m (omega arith)).0 in no_minus (decimal m) (dotted ms) (numeral_digits (decimal m) d) (numeral_some (decimal m) d) e

same_pos : (xs ys : List ℕ) → AllByRecursion IsIndex xs → AllByRecursion IsIndex ys → pos_text xs ≡ pos_text ys → xs ≡ ys
same_pos [] [] h g e = refl
same_pos [] (y ∷ ys) h g e = absurd (no_root y ys g.0 e)
same_pos (x ∷ xs) [] h g e = absurd (no_root x xs h.0 (sym e))
same_pos (x ∷ xs) (y ∷ ys) h g e = one_dotted (x ∷ xs) (y ∷ ys) h g (ap (λ l. 46 ∷ l) e)

one_pos : One (List ℕ) (AllByRecursion IsIndex) pos_text
one_pos x y b c h g hb hc e = let q = cut_once 32 (pos_text x) (pos_text y) b c (pos_unspaced x h) (pos_unspaced y g) hb hc e in (same_pos x y h g q.0, q.1)

-- terms
one_sides : (left right other also : RawTerm) → IsWritten left → IsWritten right → IsWritten other → IsWritten also → spaced (equation_words left right) ≡ spaced (equation_words other also)
    → (left ≡ other) × (right ≡ also)
one_sides left right other also h g m w e =
    let q = one_line First (r.Background left right) (r.Background other also) refl refl (h, g) (m, w) (ap (λ l. codes "background" ++ l) e) in (cc, cc)

one_alone : (term other : RawTerm) → IsWritten term → IsWritten other → spaced (term_words term) ≡ spaced (term_words other) → term ≡ other
one_alone term other h g e = one_term_law place.Equation term other h g (one_behind (joined (term_words term)) (joined (term_words other)) e)

-- One part and the next.
then_part : (A : Type 0) (P : A → Type 0) (text : A → List ℕ) → One A P text → (x y : A) (words others : List (List ℕ)) → P x → P y → spaced (text x ∷ words) ≡ spaced (text y ∷ others)
    → (x ≡ y) × (spaced words ≡ spaced others)
then_part A P text one x y words others h g e =
    one x y (spaced words) (spaced others) h g (behind_row words) (behind_row others) (one_behind (text x ++ spaced words) (text y ++ spaced others) e)

-- a line of a certificate or of a law list
abbrev pub IsLooseEntry : Entry → Type 0
IsLooseEntry (e.Law number mark left right) = IsNumber number × IsWritten left × IsWritten right
IsLooseEntry entry = IsEntry entry

abbrev pub IsLoose : CertLine → Type 0
IsLoose (c.Entry entry) = IsLooseEntry entry × (steps_of entry ≡ [])
IsLoose line = IsCertLine line

abbrev IsTold : CertLine → Key → CertLine → Type 0
IsTold x key y = IsLoose x → IsLoose y → key ≡ line_key y → tail_text x ≡ tail_text y → x ≡ y

law_told : (number : ℕ) (mark : Mark) (left right : RawTerm) (y : CertLine) → IsTold (c.Entry (e.Law number mark left right)) k.Law y
law_told number mark left right (c.Entry (e.Law m o l t)) h g key s =
    let a = then_part ℕ IsNumber decimal one_number number m (mark_text mark ∷ equation_words left right) (mark_text o ∷ equation_words l t) h.0.0 g.0.0 s in
    let b = then_part Mark (λ mark. Unit {0}) mark_text one_mark mark o (equation_words left right) (equation_words l t) tt tt a.1 in
    let d = one_sides left right l t h.0.1 h.0.2 g.0.1 g.0.2 b.1 in
    ap (λ z. c.Entry (e.Law z mark left right)) a.0 ∙ ap (λ z. c.Entry (e.Law m z left right)) b.0 ∙ ap (λ z. c.Entry (e.Law m o z right)) d.0 ∙ ap (λ z. c.Entry (e.Law m o l z)) d.1
law_told number mark left right (c.Node (n.Leaf m)) h g key s = absurd cc
law_told number mark left right y h g key s = absurd cc

lemma_told : (number : ℕ) (left right : RawTerm) (steps : List RawStep) (y : CertLine) → IsTold (c.Entry (e.Lemma number left right steps)) k.Lemma y
lemma_told number left right steps (c.Entry (e.Lemma m l t others)) h g key s =
    let a = then_part ℕ IsNumber decimal one_number number m (equation_words left right) (equation_words l t) h.0.0 g.0.0 s in
    let d = one_sides left right l t h.0.1 h.0.2 g.0.1 g.0.2 a.1 in
    ap (λ z. c.Entry (e.Lemma z left right steps)) a.0 ∙ ap (λ z. c.Entry (e.Lemma m z right steps)) d.0 ∙ ap (λ z. c.Entry (e.Lemma m l z steps)) d.1 ∙ ap (λ z. c.Entry (e.Lemma m l t z)) (h.1 ∙ sym g.1)
lemma_told number left right steps (c.Node (n.Leaf m)) h g key s = absurd cc
lemma_told number left right steps y h g key s = absurd cc

killed_told : (general target : RawTerm) (steps : List RawStep) (y : CertLine) → IsTold (c.Entry (e.Killed general target steps)) k.Killed y
killed_told general target steps (c.Entry (e.Killed l t others)) h g key s =
    let d = one_sides general target l t h.0.0 h.0.1 g.0.0 g.0.1 s in
    ap (λ z. c.Entry (e.Killed z target steps)) d.0 ∙ ap (λ z. c.Entry (e.Killed l z steps)) d.1 ∙ ap (λ z. c.Entry (e.Killed l t z)) (h.1 ∙ sym g.1)
killed_told general target steps (c.Node (n.Leaf m)) h g key s = absurd cc
killed_told general target steps y h g key s = absurd cc

moved_told : (term target : RawTerm) (steps : List RawStep) (y : CertLine) → IsTold (c.Entry (e.Moved term target steps)) k.Moved y
moved_told term target steps (c.Entry (e.Moved l t others)) h g key s =
    let d = one_sides term target l t h.0.0 h.0.1 g.0.0 g.0.1 s in
    ap (λ z. c.Entry (e.Moved z target steps)) d.0 ∙ ap (λ z. c.Entry (e.Moved l z steps)) d.1 ∙ ap (λ z. c.Entry (e.Moved l t z)) (h.1 ∙ sym g.1)
moved_told term target steps (c.Node (n.Leaf m)) h g key s = absurd cc
moved_told term target steps y h g key s = absurd cc

spread_told : (term : RawTerm) (y : CertLine) → IsTold (c.Entry (e.Spread term)) k.Spread y
spread_told term (c.Entry (e.Spread other)) h g key s = ap (λ z. c.Entry (e.Spread z)) (one_alone term other h.0 g.0 s)
spread_told term (c.Node (n.Leaf m)) h g key s = absurd cc
spread_told term y h g key s = absurd cc

live_told : (term : RawTerm) (y : CertLine) → IsTold (c.Entry (e.Live term)) k.Live y
live_told term (c.Entry (e.Live other)) h g key s = ap (λ z. c.Entry (e.Live z)) (one_alone term other h.0 g.0 s)
live_told term (c.Node (n.Leaf m)) h g key s = absurd cc
live_told term y h g key s = absurd cc

abbrev step_of : List ℕ → ℕ → Dir → List RawBind → CertLine
step_of pos eq dir binds = let s : RawStep = record { pos = pos; eq = eq; dir = dir; binds = binds } in c.Step s

step_told : (step : RawStep) (y : CertLine) → IsTold (c.Step step) k.Step y
step_told step (c.Step other) h g key s =
    let a = then_part (List ℕ) (AllByRecursion IsIndex) pos_text one_pos step.pos other.pos (decimal step.eq ∷ dir_text step.dir ∷ map bind_text step.binds) (decimal other.eq ∷ dir_text other.dir ∷ map bind_text other.binds) h.pos g.pos s in
    let b = then_part ℕ IsNumber decimal one_number step.eq other.eq (dir_text step.dir ∷ map bind_text step.binds) (dir_text other.dir ∷ map bind_text other.binds) h.eq g.eq a.1 in
    let d = then_part Dir (λ dir. Unit {0}) dir_text one_dir step.dir other.dir (map bind_text step.binds) (map bind_text other.binds) tt tt b.1 in
    let f = one_row RawBind IsBind bind_text one_bind step.binds other.binds h.binds g.binds d.1 in
    ap (λ z. step_of z step.eq step.dir step.binds) a.0 ∙ ap (λ z. step_of other.pos z step.dir step.binds) b.0 ∙ ap (λ z. step_of other.pos other.eq z step.binds) d.0 ∙ ap (λ z. step_of other.pos other.eq other.dir z) f
step_told step (c.Entry (e.Spread term)) h g key s = absurd cc
step_told step (c.Node (n.Leaf m)) h g key s = absurd cc
step_told step y h g key s = absurd cc

values_of : List ℕ → List RawTerm → CertLine
values_of sort values = let v : RawValues = record { sort = sort; values = values } in c.Values v

values_told : (values : RawValues) (y : CertLine) → IsTold (c.Values values) k.Values y
values_told values (c.Values other) h g key s =
    let q = one_line First (r.Values values.sort values.values) (r.Values other.sort other.values) refl refl h g (ap (λ l. codes "values" ++ l) s) in
    let a : values.sort ≡ other.sort = cc in let b : values.values ≡ other.values = cc in
    ap (λ z. c.Values (record { sort = z; values = values.values })) a ∙ ap (λ z. c.Values (record { sort = other.sort; values = z })) b
values_told values (c.Entry (e.Spread term)) h g key s = absurd cc
values_told values (c.Node (n.Leaf m)) h g key s = absurd cc
values_told values y h g key s = absurd cc

tree_told : (sort : List ℕ) (y : CertLine) → IsTold (c.Tree sort) k.Tree y
tree_told sort (c.Tree other) h g key s = ap c.Tree (sym (append-nil sort) ∙ one_behind (sort ++ []) (other ++ []) s ∙ append-nil other)
tree_told sort (c.Entry (e.Spread term)) h g key s = absurd cc
tree_told sort (c.Node (n.Leaf m)) h g key s = absurd cc
tree_told sort y h g key s = absurd cc

split_told : (test count : ℕ) (y : CertLine) → IsTold (c.Node (n.Split test count)) k.Split y
split_told test count (c.Node (n.Split m o)) h g key s =
    let a = then_part ℕ IsNumber decimal one_number test m (decimal count ∷ []) (decimal o ∷ []) h.0 g.0 s in
    let b = then_part ℕ IsNumber decimal one_number count o [] [] h.1 g.1 a.1 in
    ap (λ z. c.Node (n.Split z count)) a.0 ∙ ap (λ z. c.Node (n.Split m z)) b.0
split_told test count (c.Entry (e.Spread term)) h g key s = absurd cc
split_told test count y h g key s = absurd cc

class_told : (numbers : List ℕ) (y : CertLine) → IsTold (c.Node (n.Class numbers)) k.Class y
class_told numbers (c.Node (n.Class others)) h g key s = ap (λ z. c.Node (n.Class z)) (one_row ℕ IsNumber decimal one_number numbers others h.0 g.0 s)
class_told numbers (c.Entry (e.Spread term)) h g key s = absurd cc
class_told numbers y h g key s = absurd cc

leaf_told : (number : ℕ) (y : CertLine) → IsTold (c.Node (n.Leaf number)) k.Leaf y
leaf_told number (c.Node (n.Leaf m)) h g key s = ap (λ z. c.Node (n.Leaf z)) (then_part ℕ IsNumber decimal one_number number m [] [] h g s).0
leaf_told number (c.Entry (e.Spread term)) h g key s = absurd cc
leaf_told number y h g key s = absurd cc

pool_told : (y : CertLine) → IsTold c.Pool k.Pool y
pool_told c.Pool h g key s = refl
pool_told (c.Entry (e.Spread term)) h g key s = absurd cc
pool_told (c.Node (n.Leaf m)) h g key s = absurd cc
pool_told y h g key s = absurd cc

end_told : (y : CertLine) → IsTold c.End k.End y
end_told c.End h g key s = refl
end_told (c.Entry (e.Spread term)) h g key s = absurd cc
end_told (c.Node (n.Leaf m)) h g key s = absurd cc
end_told y h g key s = absurd cc

told : (x y : CertLine) → IsTold x (line_key x) y
told c.Pool y = pool_told y
told (c.Values values) y = values_told values y
told (c.Entry (e.Law number mark left right)) y = law_told number mark left right y
told (c.Entry (e.Lemma number left right steps)) y = lemma_told number left right steps y
told (c.Entry (e.Spread term)) y = spread_told term y
told (c.Entry (e.Killed general target steps)) y = killed_told general target steps y
told (c.Entry (e.Live term)) y = live_told term y
told (c.Entry (e.Moved term target steps)) y = moved_told term target steps y
told (c.Step step) y = step_told step y
told (c.Tree sort) y = tree_told sort y
told (c.Node (n.Split test count)) y = split_told test count y
told (c.Node (n.Class numbers)) y = class_told numbers y
told (c.Node (n.Leaf number)) y = leaf_told number y
told c.End y = end_told y

loose_entry : (entry : Entry) → IsEntry entry → IsLooseEntry entry
loose_entry (e.Law number mark left right) h = (h.0, h.2, h.3)
loose_entry (e.Lemma number left right steps) h = h
loose_entry (e.Spread term) h = h
loose_entry (e.Killed general target steps) h = h
loose_entry (e.Live term) h = h
loose_entry (e.Moved term target steps) h = h

pub loose : (line : CertLine) → IsCertLine line → IsLoose line
loose c.Pool h = h
loose (c.Values values) h = h
loose (c.Entry entry) h = (loose_entry entry h.0, h.1)
loose (c.Step step) h = h
loose (c.Tree sort) h = h
loose (c.Node node) h = h
loose c.End h = h

one_loose_line : (x y : CertLine) → IsLoose x → IsLoose y → line_text x ≡ line_text y → x ≡ y
one_loose_line x y h g same =
    let q = cut_once 32 (key_text (line_key x)) (key_text (line_key y)) (tail_text x) (tail_text y) (key_unspaced (line_key x)) (key_unspaced (line_key y)) (tail_behind x) (tail_behind y)
    (sym (line_parts x) ∙ same ∙ line_parts y) in
    told x y h g (one_key (line_key x) (line_key y) (sym (key_again (line_key x)) ∙ ap key_of q.0 ∙ key_again (line_key y))) q.1
  where
    one_key : (a b : Key) → Some a ≡ Some b → a ≡ b
    one_key a b e = cc

pub one_cert_line : (x y : CertLine) → IsCertLine x → IsCertLine y → line_text x ≡ line_text y → x ≡ y
one_cert_line x y h g same = one_loose_line x y (loose x h) (loose y g) same

-- the same of lines
pub one_loose_lines : (xs ys : List CertLine) → AllByRecursion IsLoose xs → AllByRecursion IsLoose ys → map line_text xs ≡ map line_text ys → xs ≡ ys
one_loose_lines [] [] h g e = refl
one_loose_lines [] (y ∷ ys) h g e = absurd cc
one_loose_lines (x ∷ xs) [] h g e = absurd cc
one_loose_lines (x ∷ xs) (y ∷ ys) h g e =
    let f : line_text x ≡ line_text y = cc in let m : map line_text xs ≡ map line_text ys = cc in
    ap (λ z. z ∷ xs) (one_loose_line x y h.0 g.0 f) ∙ ap (λ zs. y ∷ zs) (one_loose_lines xs ys h.1 g.1 m)

all_loose : (xs : List CertLine) → AllByRecursion IsCertLine xs → AllByRecursion IsLoose xs
all_loose [] h = tt
all_loose (x ∷ xs) h = (loose x h.0, all_loose xs h.1)

pub one_cert_lines : (xs ys : List CertLine) → AllByRecursion IsCertLine xs → AllByRecursion IsCertLine ys → map line_text xs ≡ map line_text ys → xs ≡ ys
one_cert_lines xs ys h g e = one_loose_lines xs ys (all_loose xs h) (all_loose ys g) e
