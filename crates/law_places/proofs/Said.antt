-- What is wanted behind the key of a line, as texts, and the line that they are; with the bounds and without them.
use Rattle.std.proofs.Common.{◌≡◌, ℕ, ◌<◌, ◌^◌, Bool, true, false, ◌||◌, List, [], ◌∷◌, ◌++◌, refl, ap, sym, subst, ◌∙◌, map, length, codes, decimal}
use Rattle.std.proofs.lemmas.List.{append-nil}
use Rattle.std.specs.List.{list_all}
use Rattle.std.specs.Str.{bytes_eq}
use Rattle.law_lines.specs.declared.raw.RawTerm.{RawTerm}
use Rattle.law_lines.specs.declared.raw.RawLine.{RawLine}
use Rattle.law_lines.specs.declared.raw.RawLine.TheVariants as l
use Rattle.law_lines.specs.declared.shape.Shape.TheVariants as s
use Rattle.law_lines.specs.declared.stage.Version.{Version}
use Rattle.law_lines.specs.declared.stage.Version.TheVariants.{First, Second, Third}
use Rattle.law_lines.specs.declared.stage.Key.{Key}
use Rattle.law_lines.specs.declared.stage.Key.TheVariants as key
use Rattle.law_lines.specs.declared.want.Want.{Want}
use Rattle.law_lines.specs.declared.want.Want.TheVariants as w
use Rattle.law_lines.specs.declared.want.Bounds.{Bounds}
use Rattle.law_lines.specs.declared.want.Place.{Place}
use Rattle.law_lines.specs.declared.want.Place.TheVariants as p
use Rattle.law_lines.specs.declared.want.Row.{Row}
use Rattle.law_lines.specs.declared.want.Row.TheVariants as r
use Rattle.law_lines.specs.declared.want.Ending.{Ending}
use Rattle.law_lines.specs.declared.want.Ending.TheVariants as e
use Rattle.law_lines.specs.declared.want.Mark.{Mark}
use Rattle.law_lines.specs.declared.want.Mark.TheVariants.{Equals, Arrow, Height, Count}
use Rattle.law_lines.specs.Spelling.{arg_spelling, line_spelling, spaced, term_spelling, term_words}
use Rattle.law_lines.specs.Terms.{IsTerm, is_name_in}
use Rattle.law_lines.specs.Lines.{AreSorts, AreValues, IsLine}
use Rattle.law_lines.specs.Stages.{IsOfVersion, key_text, line_key, of_version}
use Rattle.law_lines.specs.Walk.{is_version, line_wants, mark_text, pools_wants, seed_wants, setting}
use Rattle.law_places.specs.LineReads.{rule_text}
use Rattle.law_lines.specs.Rows.{IsRootEnding, closer}
use Rattle.law_lines.proofs.Parts.{same_bytes}
use Rattle.law_lines.proofs.Spaced.{spaced_append}

-- the values of a pool, as words
pub record ValueWords (bounds : Bounds) (words : List (List ℕ)) : Type 0 where
  pub terms : List RawTerm
  pub each : AreValues bounds terms
  pub some : 0 < length terms
  pub same : map arg_spelling terms ≡ words

abbrev pub IsRow : Bounds → Row → List (List ℕ) → Type 0
IsRow bounds r.Sorts words = AreSorts bounds words
IsRow bounds r.Names words = list_all (is_name_in bounds) words ≡ true
IsRow bounds (r.Args place) words = ⊥
IsRow bounds r.Values words = ValueWords bounds words

pub record RowSaid (bounds : Bounds) (row : Row) (ending : Ending) (bytes more : List ℕ) : Type 0 where
  pub words : List (List ℕ)
  pub is : IsRow bounds row words
  pub text : bytes ≡ spaced words ++ (closer ending ++ more)

-- how pools are made
pub record PoolsLine (bounds : Bounds) (bytes : List ℕ) : Type 0 where
  pub line : RawLine
  pub spelled : IsLine bounds line
  pub begun : line_key line ≡ key.Pools
  pub form : (version : Version) → IsOfVersion version line
  pub text : line_spelling line ≡ codes "pools " ++ bytes

-- The bytes are what is wanted. Of pools nothing stands behind.
abbrev pub Said : Bounds → List Want → List ℕ → Type 0
Said bounds [] bytes = bytes ≡ []
Said bounds (w.Gap ∷ rest) bytes = (more : List ℕ) × (bytes ≡ 32 ∷ more) × Said bounds rest more
Said bounds (w.Version ∷ rest) bytes = (number : List ℕ) × (is_version number ≡ true) × (more : List ℕ) × (bytes ≡ number ++ more) × Said bounds rest more
Said bounds (w.Pools ∷ rest) bytes = PoolsLine bounds bytes
Said bounds (w.Fixed mark ∷ rest) bytes = (more : List ℕ) × (bytes ≡ mark_text mark ++ more) × Said bounds rest more
Said bounds (w.Number ∷ rest) bytes = (n : ℕ) × (n < 2 ^ 63) × (more : List ℕ) × (bytes ≡ decimal n ++ more) × Said bounds rest more
Said bounds (w.Name ∷ rest) bytes = (name : List ℕ) × (is_name_in bounds name ≡ true) × (more : List ℕ) × (bytes ≡ name ++ more) × Said bounds rest more
Said bounds (w.Root place ending ∷ rest) bytes =
    (term : RawTerm) × IsTerm bounds place term × (more : List ℕ) × (bytes ≡ term_spelling term ++ (closer ending ++ more)) × Said bounds rest more
Said bounds (w.Row row level count ending ∷ rest) bytes = (more : List ℕ) × RowSaid bounds row ending bytes more × Said bounds rest more
Said bounds wants bytes = ⊥

-- What may be wanted behind a key, or, where pools are none of it, behind a word for how they are made: no nodes of a term are
-- counted there.
abbrev pub RowAt : Row → ℕ → Ending → Type 0
RowAt r.Sorts level ending = level ≡ 0
RowAt r.Names level ending = level ≡ 0
RowAt (r.Args place) level ending = ⊥
RowAt r.Values level e.Line = level ≡ 1
RowAt r.Values level e.Bracket = ⊥
RowAt r.Values level (e.Mark mark) = ⊥

abbrev pub Plain : Bool → List Want → Type 0
Plain b [] = Unit {0}
Plain b (w.Key stage ∷ rest) = ⊥
Plain b (w.Head ∷ rest) = ⊥
Plain b (w.Item row level count ending ∷ rest) = ⊥
Plain true (w.Pools ∷ rest) = rest ≡ []
Plain false (w.Pools ∷ rest) = ⊥
Plain b (w.Gap ∷ rest) = Plain b rest
Plain b (w.Version ∷ rest) = Plain b rest
Plain b (w.Fixed mark ∷ rest) = Plain b rest
Plain b (w.Number ∷ rest) = Plain b rest
Plain b (w.Name ∷ rest) = Plain b rest
Plain b (w.Root place ending ∷ rest) = IsRootEnding ending × Plain b rest
Plain b (w.Row row level count ending ∷ rest) = RowAt row level ending × (count ≡ 0) × IsRootEnding ending × Plain b rest

con_plain : Plain true (w.Gap ∷ w.Name ∷ w.Row r.Sorts 0 0 e.Line ∷ [])
con_plain = (refl, refl, tt, tt)

fun_plain : Plain true (w.Gap ∷ w.Name ∷ w.Row r.Sorts 0 0 (e.Mark Arrow) ∷ w.Gap ∷ w.Name ∷ [])
fun_plain = (refl, refl, tt, tt)

pub line_plain : (version : Version) (k : Key) → Plain true (line_wants version k)
line_plain version key.Signature = tt
line_plain version key.Vars = tt
line_plain version key.Size = tt
line_plain version key.Width = tt
line_plain version key.Budget = tt
line_plain version key.Pairs = tt
line_plain version key.Pools = refl
line_plain First key.Sort = tt
line_plain Second key.Sort = tt
line_plain Third key.Sort = tt
line_plain First key.Con = con_plain
line_plain Second key.Con = con_plain
line_plain Third key.Con = con_plain
line_plain First key.Fun = fun_plain
line_plain Second key.Fun = fun_plain
line_plain Third key.Fun = fun_plain
line_plain version key.Match = tt
line_plain version key.Body = (tt, tt)
line_plain version key.Case = (tt, tt)
line_plain version key.Explore = (refl, refl, tt, tt)
line_plain version key.Background = (tt, (tt, tt))
line_plain version key.Pool = tt
line_plain version key.Values = (refl, refl, tt, tt)
line_plain version key.End = tt

-- a word behind a space
record Spaced (bounds : Bounds) (said : List ℕ) (rest : List Want) (bytes : List ℕ) : Type 0 where
  more : List ℕ
  text : bytes ≡ 32 ∷ (said ++ more)
  left : Said bounds rest more

number_said : (bounds : Bounds) (rest : List Want) (bytes : List ℕ) → Said bounds (w.Gap ∷ w.Number ∷ rest) bytes → (n : ℕ) × (n < 2 ^ 63) × Spaced bounds (decimal n) rest bytes
number_said bounds rest bytes g = let a = g.2 in (a.0, a.1, record { more = a.2; text = g.1 ∙ ap (λ t. 32 ∷ t) a.3; left = a.4 })

name_said : (bounds : Bounds) (rest : List Want) (bytes : List ℕ) → Said bounds (w.Gap ∷ w.Name ∷ rest) bytes → (name : List ℕ) × (is_name_in bounds name ≡ true) × Spaced bounds name rest bytes
name_said bounds rest bytes g = let a = g.2 in (a.0, a.1, record { more = a.2; text = g.1 ∙ ap (λ t. 32 ∷ t) a.3; left = a.4 })

fixed_said : (bounds : Bounds) (mark : Mark) (rest : List Want) (bytes : List ℕ) → Said bounds (w.Gap ∷ w.Fixed mark ∷ rest) bytes → Spaced bounds (mark_text mark) rest bytes
fixed_said bounds mark rest bytes g = let a = g.2 in record { more = a.0; text = g.1 ∙ ap (λ t. 32 ∷ t) a.1; left = a.2 }

-- words behind each other
none_is : (bounds : Bounds) (bytes : List ℕ) → Said bounds [] bytes → spaced [] ≡ bytes
none_is bounds bytes g = sym g

word_is : (bounds : Bounds) (x : List ℕ) (words : List (List ℕ)) (rest : List Want) (bytes : List ℕ) (s : Spaced bounds x rest bytes) → spaced words ≡ s.more → spaced (x ∷ words) ≡ bytes
word_is bounds x words rest bytes s e = ap (λ t. 32 ∷ (x ++ t)) e ∙ sym s.text

row_is : (bounds : Bounds) (row : Row) (bytes more : List ℕ) (ws : RowSaid bounds row e.Line bytes more) → Said bounds [] more → spaced ws.words ≡ bytes
row_is bounds row bytes more ws g = sym (append-nil (spaced ws.words)) ∙ ap (λ t. spaced ws.words ++ t) (sym g) ∙ sym ws.text

marked_is : (words behind : List (List ℕ)) (mark more bytes : List ℕ) → bytes ≡ spaced words ++ 32 ∷ (mark ++ more) → spaced behind ≡ more → spaced (words ++ mark ∷ behind) ≡ bytes
marked_is words behind mark more bytes e f = spaced_append words (mark ∷ behind) ∙ ap (λ t. spaced words ++ 32 ∷ (mark ++ t)) f ∙ sym e

-- a term, up to the end of the line or to a fixed word
record TermLeft (bounds : Bounds) (place : Place) (bytes : List ℕ) : Type 0 where
  term : RawTerm
  fits : IsTerm bounds place term
  text : spaced (term_words term) ≡ bytes

term_said : (bounds : Bounds) (place : Place) (bytes : List ℕ) → Said bounds (w.Gap ∷ w.Root place e.Line ∷ []) bytes → TermLeft bounds place bytes
term_said bounds place bytes g = let a = g.2 in record {
  term = a.0;
  fits = a.1;
  text = ap (λ t. 32 ∷ t) (sym (append-nil (term_spelling a.0)) ∙ ap (λ t. term_spelling a.0 ++ t) (sym a.4) ∙ sym a.3) ∙ sym g.1;
}

-- Each line, from behind its key on.
pub record LineSaid (bounds : Bounds) (version : Version) (k : Key) (bytes : List ℕ) : Type 0 where
  pub line : RawLine
  pub begun : line_key line ≡ k
  pub form : IsOfVersion version line
  pub spelled : IsLine bounds line
  pub text : line_spelling line ≡ key_text k ++ bytes

record Setting (bytes : List ℕ) : Type 0 where
  n : ℕ
  small : n < 2 ^ 63
  text : spaced (decimal n ∷ []) ≡ bytes

setting_said : (bounds : Bounds) (bytes : List ℕ) → Said bounds setting bytes → Setting bytes
setting_said bounds bytes g = let a = number_said bounds [] bytes g in record { n = a.0; small = a.1; text = word_is bounds (decimal a.0) [] [] bytes a.2 (none_is bounds a.2.more a.2.left) }

head_by : (bounds : Bounds) (a b : Bool) (version : Version) (bytes number : List ℕ) → bytes_eq number (codes "1") ≡ a → bytes_eq number (codes "2") ≡ b → (a || (b || bytes_eq number (codes "3"))) ≡ true → spaced (number ∷ []) ≡ bytes
    → LineSaid bounds version key.Signature bytes
head_by bounds true b version bytes number e f t s =
    record { line = l.Head; begun = refl; form = refl; spelled = tt; text = ap (λ x. key_text key.Signature ++ spaced (x ∷ [])) (sym (same_bytes number (codes "1") e)) ∙ ap (λ x. key_text key.Signature ++ x) s }
head_by bounds false true version bytes number e f t s =
    record { line = l.Head2; begun = refl; form = refl; spelled = tt; text = ap (λ x. key_text key.Signature ++ spaced (x ∷ [])) (sym (same_bytes number (codes "2") f)) ∙ ap (λ x. key_text key.Signature ++ x) s }
head_by bounds false false version bytes number e f t s =
    record { line = l.Head3; begun = refl; form = refl; spelled = tt; text = ap (λ x. key_text key.Signature ++ spaced (x ∷ [])) (sym (same_bytes number (codes "3") t)) ∙ ap (λ x. key_text key.Signature ++ x) s }

head_said : (bounds : Bounds) (version : Version) (bytes : List ℕ) → Said bounds (w.Gap ∷ w.Version ∷ []) bytes → LineSaid bounds version key.Signature bytes
head_said bounds version bytes g =
    let a = g.2 in
    head_by bounds (bytes_eq a.0 (codes "1")) (bytes_eq a.0 (codes "2")) version bytes a.0 refl refl a.1 (ap (λ t. 32 ∷ (a.0 ++ t)) (sym a.4) ∙ ap (λ t. 32 ∷ t) (sym a.3) ∙ sym g.1)

seed_key : (seed height count : ℕ) → line_key (l.PoolsSeed seed height count) ≡ key.Pools
seed_key seed height count = refl

seed_form : (seed height count : ℕ) (version : Version) → IsOfVersion version (l.PoolsSeed seed height count)
seed_form seed height count version = refl

seed_line : (bounds : Bounds) (bytes : List ℕ) → Said bounds seed_wants bytes → PoolsLine bounds (codes "seed" ++ bytes)
seed_line bounds bytes g =
    let five : List Want = w.Gap ∷ w.Number ∷ [] in let four : List Want = w.Gap ∷ w.Fixed Count ∷ five in let three : List Want = w.Gap ∷ w.Number ∷ four in let two : List Want = w.Gap ∷ w.Fixed Height ∷ three in
    let a = number_said bounds two bytes g in
    let b = fixed_said bounds Height three a.2.more a.2.left in
    let c = number_said bounds four b.more b.left in
    let d = fixed_said bounds Count five c.2.more c.2.left in
    let f = number_said bounds [] d.more d.left in
    let last : List (List ℕ) = decimal f.0 ∷ [] in
    let fourth : List (List ℕ) = codes "count" ∷ last in let third : List (List ℕ) = decimal c.0 ∷ fourth in let second : List (List ℕ) = codes "height" ∷ third in
    let end = word_is bounds (decimal f.0) [] [] d.more f.2 (none_is bounds f.2.more f.2.left) in
    let whole = word_is bounds (decimal a.0) second two bytes a.2
    (word_is bounds (codes "height") third three a.2.more b (word_is bounds (decimal c.0) fourth four b.more c.2 (word_is bounds (codes "count") last five c.2.more d end))) in
    record {
      line = l.PoolsSeed a.0 c.0 f.0;
      spelled = (a.1, c.1, f.1);
      begun = seed_key a.0 c.0 f.0;
      form = seed_form a.0 c.0 f.0;
      text = ap (λ t. codes "pools seed" ++ t) {x = spaced (decimal a.0 ∷ second)} whole;
    }

pub pools_line : (bounds : Bounds) (given : Bool) (x bytes : List ℕ) → x ≡ rule_text given → Said bounds (pools_wants given) bytes → PoolsLine bounds (x ++ bytes)
pools_line bounds true x bytes q g = record {
  line = l.PoolsGiven;
  spelled = tt;
  begun = refl;
  form = λ version. refl;
  text = ap (λ t. codes "pools " ++ t) (sym (append-nil (codes "given")) ∙ ap (λ t. codes "given" ++ t) (sym g) ∙ ap (λ t. t ++ bytes) (sym q));
}
pools_line bounds false x bytes q g = subst (λ t. PoolsLine bounds (t ++ bytes)) (sym q) (seed_line bounds bytes g)

pools_said : (bounds : Bounds) (version : Version) (bytes : List ℕ) → Said bounds (w.Gap ∷ w.Pools ∷ []) bytes → LineSaid bounds version key.Pools bytes
pools_said bounds version bytes g =
    record { line = g.2.line; begun = g.2.begun; form = g.2.form version; spelled = g.2.spelled; text = g.2.text ∙ ap (λ t. codes "pools" ++ t) (sym g.1) }

record SizedSort (bounds : Bounds) (bytes : List ℕ) : Type 0 where
  name : List ℕ
  vars : ℕ
  width : ℕ
  named : is_name_in bounds name ≡ true
  few : vars < 2 ^ 63
  small : width < 2 ^ 63
  text : spaced (name ∷ decimal vars ∷ decimal width ∷ []) ≡ bytes

sized_said : (bounds : Bounds) (bytes : List ℕ) → Said bounds (w.Gap ∷ w.Name ∷ w.Gap ∷ w.Number ∷ w.Gap ∷ w.Number ∷ []) bytes → SizedSort bounds bytes
sized_said bounds bytes g =
    let two : List Want = w.Gap ∷ w.Number ∷ [] in let one : List Want = w.Gap ∷ w.Number ∷ two in
    let a = name_said bounds one bytes g in let b = number_said bounds two a.2.more a.2.left in let c = number_said bounds [] b.2.more b.2.left in
    record {
      name = a.0;
      vars = b.0;
      width = c.0;
      named = a.1;
      few = b.1;
      small = c.1;
      text = word_is bounds a.0 (decimal b.0 ∷ decimal c.0 ∷ []) one bytes a.2
          (word_is bounds (decimal b.0) (decimal c.0 ∷ []) two a.2.more b.2 (word_is bounds (decimal c.0) [] [] b.2.more c.2 (none_is bounds c.2.more c.2.left)));
    }

sized_line : (bounds : Bounds) (version : Version) (bytes : List ℕ) → of_version version s.SortLine2 ≡ true → SizedSort bounds bytes → LineSaid bounds version key.Sort bytes
sized_line bounds version bytes v x = record { line = l.SortLine2 x.name x.vars x.width; begun = refl; form = v; spelled = (x.named, x.few, x.small); text = ap (λ t. key_text key.Sort ++ t) x.text }

sort_said : (bounds : Bounds) (version : Version) (bytes : List ℕ) → Said bounds (line_wants version key.Sort) bytes → LineSaid bounds version key.Sort bytes
sort_said bounds First bytes g =
    let a = name_said bounds [] bytes g in
    record { line = l.SortLine a.0; begun = refl; form = refl; spelled = a.1; text = ap (λ t. key_text key.Sort ++ t) (word_is bounds a.0 [] [] bytes a.2 (none_is bounds a.2.more a.2.left)) }
sort_said bounds Second bytes g = sized_line bounds Second bytes refl (sized_said bounds bytes g)
sort_said bounds Third bytes g = sized_line bounds Third bytes refl (sized_said bounds bytes g)

record Con (bounds : Bounds) (bytes : List ℕ) : Type 0 where
  name : List ℕ
  args : List (List ℕ)
  named : is_name_in bounds name ≡ true
  sorts : AreSorts bounds args
  text : spaced (name ∷ args) ≡ bytes

con_text : (bounds : Bounds) (bytes : List ℕ) → Said bounds (w.Gap ∷ w.Name ∷ w.Row r.Sorts 0 0 e.Line ∷ []) bytes → Con bounds bytes
con_text bounds bytes g =
    let rest : List Want = w.Row r.Sorts 0 0 e.Line ∷ [] in
    let a = name_said bounds rest bytes g in let b = a.2.left in
    record {
      name = a.0;
      args = b.1.words;
      named = a.1;
      sorts = b.1.is;
      text = word_is bounds a.0 b.1.words rest bytes a.2 (row_is bounds r.Sorts a.2.more b.0 b.1 b.2);
    }

con_said : (bounds : Bounds) (version : Version) (bytes : List ℕ) → Said bounds (line_wants version key.Con) bytes → LineSaid bounds version key.Con bytes
con_said bounds First bytes g =
    let c = con_text bounds bytes g in record { line = l.ConLine c.name c.args; begun = refl; form = refl; spelled = (c.named, c.sorts); text = ap (λ t. key_text key.Con ++ t) c.text }
con_said bounds Second bytes g =
    let c = con_text bounds bytes g in record { line = l.ConLine c.name c.args; begun = refl; form = refl; spelled = (c.named, c.sorts); text = ap (λ t. key_text key.Con ++ t) c.text }
con_said bounds Third bytes g =
    let rest : List Want = w.Gap ∷ w.Name ∷ w.Row r.Sorts 0 0 e.Line ∷ [] in
    let a = number_said bounds rest bytes g in let c = con_text bounds a.2.more a.2.left in
    record {
      line = l.ConLine3 a.0 c.name c.args;
      begun = refl;
      form = refl;
      spelled = (a.1, c.named, c.sorts);
      text = ap (λ t. key_text key.Con ++ t) (word_is bounds (decimal a.0) (c.name ∷ c.args) rest bytes a.2 c.text);
    }

record Function (bounds : Bounds) (bytes : List ℕ) : Type 0 where
  name : List ℕ
  args : List (List ℕ)
  result : List ℕ
  named : is_name_in bounds name ≡ true
  sorts : AreSorts bounds args
  gives : is_name_in bounds result ≡ true
  text : spaced (name ∷ (args ++ codes "->" ∷ result ∷ [])) ≡ bytes

fun_text : (bounds : Bounds) (bytes : List ℕ) → Said bounds (w.Gap ∷ w.Name ∷ w.Row r.Sorts 0 0 (e.Mark Arrow) ∷ w.Gap ∷ w.Name ∷ []) bytes → Function bounds bytes
fun_text bounds bytes g =
    let last : List Want = w.Gap ∷ w.Name ∷ [] in let rest : List Want = w.Row r.Sorts 0 0 (e.Mark Arrow) ∷ last in
    let a = name_said bounds rest bytes g in let b = a.2.left in let c = name_said bounds [] b.0 b.2 in
    record {
      name = a.0;
      args = b.1.words;
      result = c.0;
      named = a.1;
      sorts = b.1.is;
      gives = c.1;
      text = word_is bounds a.0 (b.1.words ++ codes "->" ∷ c.0 ∷ []) rest bytes a.2
          (marked_is b.1.words (c.0 ∷ []) (codes "->") b.0 a.2.more b.1.text (word_is bounds c.0 [] [] b.0 c.2 (none_is bounds c.2.more c.2.left)));
    }

fun_said : (bounds : Bounds) (version : Version) (bytes : List ℕ) → Said bounds (line_wants version key.Fun) bytes → LineSaid bounds version key.Fun bytes
fun_said bounds First bytes g =
    let f = fun_text bounds bytes g in record { line = l.FunLine f.name f.args f.result; begun = refl; form = refl; spelled = (f.named, f.sorts, f.gives); text = ap (λ t. key_text key.Fun ++ t) f.text }
fun_said bounds Second bytes g =
    let f = fun_text bounds bytes g in record { line = l.FunLine f.name f.args f.result; begun = refl; form = refl; spelled = (f.named, f.sorts, f.gives); text = ap (λ t. key_text key.Fun ++ t) f.text }
fun_said bounds Third bytes g =
    let rest : List Want = w.Gap ∷ w.Name ∷ w.Row r.Sorts 0 0 (e.Mark Arrow) ∷ w.Gap ∷ w.Name ∷ [] in
    let a = number_said bounds rest bytes g in let f = fun_text bounds a.2.more a.2.left in
    record {
      line = l.FunLine3 a.0 f.name f.args f.result;
      begun = refl;
      form = refl;
      spelled = (a.1, f.named, f.sorts, f.gives);
      text = ap (λ t. key_text key.Fun ++ t) (word_is bounds (decimal a.0) (f.name ∷ (f.args ++ codes "->" ∷ f.result ∷ [])) rest bytes a.2 f.text);
    }

body_said : (bounds : Bounds) (version : Version) (bytes : List ℕ) → Said bounds (line_wants version key.Body) bytes → LineSaid bounds version key.Body bytes
body_said bounds version bytes g =
    let rest : List Want = w.Gap ∷ w.Root p.Body e.Line ∷ [] in
    let a = fixed_said bounds Equals rest bytes g in let t = term_said bounds p.Body a.more a.left in
    record { line = l.BodyLine t.term; begun = refl; form = refl; spelled = t.fits; text = ap (λ x. key_text key.Body ++ x) (word_is bounds (codes "=") (term_words t.term) rest bytes a t.text) }

case_said : (bounds : Bounds) (version : Version) (bytes : List ℕ) → Said bounds (line_wants version key.Case) bytes → LineSaid bounds version key.Case bytes
case_said bounds version bytes g =
    let last : List Want = w.Gap ∷ w.Root p.Body e.Line ∷ [] in let rest : List Want = w.Gap ∷ w.Fixed Equals ∷ last in
    let c = name_said bounds rest bytes g in let a = fixed_said bounds Equals last c.2.more c.2.left in let t = term_said bounds p.Body a.more a.left in
    record {
      line = l.CaseLine c.0 t.term;
      begun = refl;
      form = refl;
      spelled = (c.1, t.fits);
      text = ap (λ x. key_text key.Case ++ x) (word_is bounds c.0 (codes "=" ∷ term_words t.term) rest bytes c.2 (word_is bounds (codes "=") (term_words t.term) last c.2.more a t.text));
    }

background_said : (bounds : Bounds) (version : Version) (bytes : List ℕ) → Said bounds (line_wants version key.Background) bytes → LineSaid bounds version key.Background bytes
background_said bounds version bytes g =
    let a = g.2 in let t = term_said bounds p.Equation a.2 a.4 in
    record {
      line = l.Background a.0 t.term;
      begun = refl;
      form = refl;
      spelled = (a.1, t.fits);
      text = ap (λ x. key_text key.Background ++ x) (marked_is (term_words a.0) (term_words t.term) (codes "=") a.2 bytes (g.1 ∙ ap (λ x. 32 ∷ x) a.3) t.text);
    }

values_said : (bounds : Bounds) (version : Version) (bytes : List ℕ) → Said bounds (line_wants version key.Values) bytes → LineSaid bounds version key.Values bytes
values_said bounds version bytes g =
    let rest : List Want = w.Row r.Values 1 0 e.Line ∷ [] in
    let a = name_said bounds rest bytes g in let b = a.2.left in let ts = b.1.is in
    record {
      line = l.Values a.0 ts.terms;
      begun = refl;
      form = refl;
      spelled = (a.1, ts.some, ts.each);
      text = ap (λ x. key_text key.Values ++ x) (ap (λ x. spaced (a.0 ∷ x)) ts.same ∙ word_is bounds a.0 b.1.words rest bytes a.2 (row_is bounds r.Values a.2.more b.0 b.1 b.2));
    }

pub line_said : (bounds : Bounds) (version : Version) (k : Key) (bytes : List ℕ) → Said bounds (line_wants version k) bytes → LineSaid bounds version k bytes
line_said bounds version key.Signature bytes g = head_said bounds version bytes g
line_said bounds version key.Vars bytes g = let s = setting_said bounds bytes g in record { line = l.Vars s.n; begun = refl; form = refl; spelled = s.small; text = ap (λ t. key_text key.Vars ++ t) s.text }
line_said bounds version key.Size bytes g = let s = setting_said bounds bytes g in record { line = l.Size s.n; begun = refl; form = refl; spelled = s.small; text = ap (λ t. key_text key.Size ++ t) s.text }
line_said bounds version key.Width bytes g = let s = setting_said bounds bytes g in record { line = l.Width s.n; begun = refl; form = refl; spelled = s.small; text = ap (λ t. key_text key.Width ++ t) s.text }
line_said bounds version key.Budget bytes g = let s = setting_said bounds bytes g in record { line = l.Budget s.n; begun = refl; form = refl; spelled = s.small; text = ap (λ t. key_text key.Budget ++ t) s.text }
line_said bounds version key.Pairs bytes g = let s = setting_said bounds bytes g in record { line = l.Pairs s.n; begun = refl; form = refl; spelled = s.small; text = ap (λ t. key_text key.Pairs ++ t) s.text }
line_said bounds version key.Pools bytes g = pools_said bounds version bytes g
line_said bounds version key.Sort bytes g = sort_said bounds version bytes g
line_said bounds version key.Con bytes g = con_said bounds version bytes g
line_said bounds version key.Fun bytes g = fun_said bounds version bytes g
line_said bounds version key.Match bytes g = let s = setting_said bounds bytes g in record { line = l.MatchLine s.n; begun = refl; form = refl; spelled = s.small; text = ap (λ t. key_text key.Match ++ t) s.text }
line_said bounds version key.Body bytes g = body_said bounds version bytes g
line_said bounds version key.Case bytes g = case_said bounds version bytes g
line_said bounds version key.Explore bytes g = record {
  line = l.Explore g.1.words;
  begun = refl;
  form = refl;
  spelled = g.1.is;
  text = ap (λ t. key_text key.Explore ++ t) (row_is bounds r.Names bytes g.0 g.1 g.2);
}
line_said bounds version key.Background bytes g = background_said bounds version bytes g
line_said bounds version key.Pool bytes g = record { line = l.Pool; begun = refl; form = refl; spelled = tt; text = ap (λ t. key_text key.Pool ++ t) (none_is bounds bytes g) }
line_said bounds version key.Values bytes g = values_said bounds version bytes g
line_said bounds version key.End bytes g = record { line = l.End; begun = refl; form = refl; spelled = tt; text = ap (λ t. key_text key.End ++ t) (none_is bounds bytes g) }
