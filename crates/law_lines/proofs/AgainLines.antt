-- What is spelled is read: whole lines.
use Rattle.std.proofs.Common.{◌≡◌, ℕ, ◌+◌, ◌<◌, ◌≤◌, ◌^◌, true, ◌||◌, List, [], ◌∷◌, ◌++◌, Some, None, refl, ap, sym, ◌∙◌, arith, map, length, decimal, codes}
use Rattle.std.proofs.lemmas.List.{append-nil}
use Rattle.std.specs.List.{list_all}
use Rattle.std.specs.Str.{bytes_eq}
use Rattle.law_lines.specs.Pieces.{pieces}
use Rattle.law_lines.proofs.FirstPieces.{begins_apart}
use Rattle.law_lines.specs.declared.raw.RawTerm.{RawTerm}
use Rattle.law_lines.specs.declared.raw.RawLine.TheVariants as l
use Rattle.law_lines.specs.declared.stage.Version.{Version}
use Rattle.law_lines.specs.declared.stage.Version.TheVariants.{First, Second, Third}
use Rattle.law_lines.specs.declared.stage.Key.{Key}
use Rattle.law_lines.specs.declared.stage.Key.TheVariants as key
use Rattle.law_lines.specs.declared.stage.Stage.{Stage}
use Rattle.law_lines.specs.declared.want.Want.{Want}
use Rattle.law_lines.specs.declared.want.Want.TheVariants as w
use Rattle.law_lines.specs.declared.want.Bounds.{Bounds}
use Rattle.law_lines.specs.declared.want.Place.{Place}
use Rattle.law_lines.specs.declared.want.Place.TheVariants as p
use Rattle.law_lines.specs.declared.want.Mark.{Mark}
use Rattle.law_lines.specs.declared.want.Mark.TheVariants.{Equals, Arrow, Height, Count}
use Rattle.law_lines.specs.declared.want.Row.TheVariants as r
use Rattle.law_lines.specs.declared.want.Ending.TheVariants as e
use Rattle.law_lines.specs.Spelling.{arg_spelling, spaced, term_words}
use Rattle.law_lines.specs.Terms.{IsTerm, is_name_in, within}
use Rattle.law_lines.specs.Lines.{AreSorts}
use Rattle.law_lines.specs.Stages.{IsOfVersion, allows, key_text}
use Rattle.law_lines.specs.Laws.{SpelledIsWalked}
use Rattle.law_lines.specs.Walk.{walk_in, allows_found, key_of, line_wants, mark_text, setting, wants_found}
use Rattle.law_lines.proofs.Spaced.{spaced_append}
use Rattle.law_lines.proofs.Walks.{walk_nil}
use Rattle.law_lines.proofs.Again.{Bound, apart_none, apart_space, bound_by, bound_of, gap_on, is_solid, letters_in, letters_solid, number_is_number, number_solid, word_on}
use Rattle.law_lines.proofs.AgainTerms.{names_on}
use Rattle.law_lines.proofs.AgainRoots.{gap_mark_on, mark_on, root_on, values_on}

pub apart_words : (words : List (List ℕ)) → begins_apart (spaced words) ≡ true
apart_words [] = apart_none
apart_words (x ∷ words) = apart_space (x ++ spaced words)

-- parts of a line
number_on : (bounds : Bounds) (rest : List Want) (n : ℕ) (words : List (List ℕ)) → n < 2 ^ 63 → walk_in bounds 0 (w.Gap ∷ w.Number ∷ rest) (pieces (spaced (decimal n ∷ words))) ≡ walk_in bounds 0 rest (pieces (spaced words))
number_on bounds rest n words small =
    gap_on bounds 0 (w.Number ∷ rest) (decimal n ++ spaced words) ∙ word_on bounds 0 w.Number rest (decimal n) (spaced words) (number_solid n small) (apart_words words) (number_is_number n small)

name_on : (bounds : Bounds) (rest : List Want) (name : List ℕ) (words : List (List ℕ)) → is_name_in bounds name ≡ true → walk_in bounds 0 (w.Gap ∷ w.Name ∷ rest) (pieces (spaced (name ∷ words))) ≡ walk_in bounds 0 rest (pieces (spaced words))
name_on bounds rest name words named =
    gap_on bounds 0 (w.Name ∷ rest) (name ++ spaced words) ∙ word_on bounds 0 w.Name rest name (spaced words) (letters_solid name (letters_in bounds name named)) (apart_words words) named

fixed_on : (bounds : Bounds) (mark : Mark) (rest : List Want) (words : List (List ℕ)) → walk_in bounds 0 (w.Gap ∷ w.Fixed mark ∷ rest) (pieces (spaced (mark_text mark ∷ words))) ≡ walk_in bounds 0 rest (pieces (spaced words))
fixed_on bounds mark rest words = gap_mark_on bounds mark rest (spaced words) (apart_words words)

nothing : (bounds : Bounds) → walk_in bounds 0 [] (pieces (spaced [])) ≡ None
nothing bounds = walk_nil bounds 0 []

few_of : (bounds : Bounds) (n : ℕ) → within bounds 8 n ≡ true → Bound bounds (0 + n ≤ 8)
few_of bounds n h = bound_by bounds (n ≤ 8) (0 + n ≤ 8) (λ l. omega arith) (bound_of bounds 8 n h)

sorts_end : (bounds : Bounds) (args : List (List ℕ)) → AreSorts bounds args → walk_in bounds 0 (w.Row r.Sorts 0 0 e.Line ∷ []) (pieces (spaced args)) ≡ None
sorts_end bounds args h =
    let q = names_on bounds args 0 r.Sorts 0 e.Line [] [] tt h.names (few_of bounds (length args) h.few) apart_none in
    ap (λ l. walk_in bounds 0 (w.Row r.Sorts 0 0 e.Line ∷ []) (pieces l)) (sym (append-nil (spaced args))) ∙ q.1 ∙ walk_nil bounds q.0 (w.Row r.Sorts 0 (0 + length args) e.Line ∷ [])

names_end : (bounds : Bounds) (args : List (List ℕ)) → list_all (is_name_in bounds) args ≡ true → walk_in bounds 0 (w.Row r.Names 0 0 e.Line ∷ []) (pieces (spaced args)) ≡ None
names_end bounds args h =
    let q = names_on bounds args 0 r.Names 0 e.Line [] [] tt h tt apart_none in
    ap (λ l. walk_in bounds 0 (w.Row r.Names 0 0 e.Line ∷ []) (pieces l)) (sym (append-nil (spaced args))) ∙ q.1 ∙ walk_nil bounds q.0 (w.Row r.Names 0 (0 + length args) e.Line ∷ [])

result_on : (bounds : Bounds) (args : List (List ℕ)) (result : List ℕ) → AreSorts bounds args → is_name_in bounds result ≡ true
    → walk_in bounds 0 (w.Row r.Sorts 0 0 (e.Mark Arrow) ∷ w.Gap ∷ w.Name ∷ []) (pieces (spaced (args ++ codes "->" ∷ result ∷ []))) ≡ None
result_on bounds args result h named =
    let rest : List Want = w.Gap ∷ w.Name ∷ [] in
    let tail : List (List ℕ) = result ∷ [] in
    let q = names_on bounds args 0 r.Sorts 0 (e.Mark Arrow) rest (spaced (codes "->" ∷ tail)) tt h.names (few_of bounds (length args) h.few) (apart_words (codes "->" ∷ tail)) in
    ap (λ l. walk_in bounds 0 (w.Row r.Sorts 0 0 (e.Mark Arrow) ∷ rest) (pieces l)) (spaced_append args (codes "->" ∷ tail)) ∙ q.1
    ∙ mark_on bounds q.0 r.Sorts 0 (0 + length args) Arrow rest (spaced tail) tt (apart_words tail) ∙ name_on bounds [] result [] named ∙ nothing bounds

pub root_end : (bounds : Bounds) (place : Place) (term : RawTerm) → IsTerm bounds place term → walk_in bounds 0 (w.Gap ∷ w.Root place e.Line ∷ []) (pieces (spaced (term_words term))) ≡ None
root_end bounds place term h =
    ap (λ l. walk_in bounds 0 (w.Gap ∷ w.Root place e.Line ∷ []) (pieces l)) (sym (append-nil (spaced (term_words term)))) ∙ root_on bounds place term e.Line [] [] [] (refl, refl, refl) h ∙ nothing bounds

pub sides_on : (bounds : Bounds) (left right : RawTerm) → IsTerm bounds p.Equation left → IsTerm bounds p.Equation right
    → walk_in bounds 0 (w.Gap ∷ w.Root p.Equation (e.Mark Equals) ∷ w.Gap ∷ w.Root p.Equation e.Line ∷ []) (pieces (spaced (term_words left ++ codes "=" ∷ term_words right))) ≡ None
sides_on bounds left right h g =
    let rest : List Want = w.Gap ∷ w.Root p.Equation e.Line ∷ [] in
    ap (λ l. walk_in bounds 0 (w.Gap ∷ w.Root p.Equation (e.Mark Equals) ∷ rest) (pieces l)) (spaced_append (term_words left) (codes "=" ∷ term_words right))
    ∙ root_on bounds p.Equation left (e.Mark Equals) rest (spaced (codes "=" ∷ term_words right)) (spaced (term_words right)) (tt, refl, apart_words (term_words right)) h
    ∙ root_end bounds p.Equation right g

-- keys
pub key_again : (k : Key) → key_of (key_text k) ≡ Some k
key_again key.Signature = refl
key_again key.Vars = refl
key_again key.Size = refl
key_again key.Width = refl
key_again key.Budget = refl
key_again key.Pairs = refl
key_again key.Pools = refl
key_again key.Sort = refl
key_again key.Con = refl
key_again key.Fun = refl
key_again key.Match = refl
key_again key.Body = refl
key_again key.Case = refl
key_again key.Explore = refl
key_again key.Background = refl
key_again key.Pool = refl
key_again key.Values = refl
key_again key.End = refl

pub key_solid : (k : Key) → is_solid (key_text k) ≡ true
unfolding is_solid
key_solid key.Signature = refl
key_solid key.Vars = refl
key_solid key.Size = refl
key_solid key.Width = refl
key_solid key.Budget = refl
key_solid key.Pairs = refl
key_solid key.Pools = refl
key_solid key.Sort = refl
key_solid key.Con = refl
key_solid key.Fun = refl
key_solid key.Match = refl
key_solid key.Body = refl
key_solid key.Case = refl
key_solid key.Explore = refl
key_solid key.Background = refl
key_solid key.Pool = refl
key_solid key.Values = refl
key_solid key.End = refl

key_on : (bounds : Bounds) (stage : Stage) (k : Key) (words : List (List ℕ)) → allows stage k ≡ true
    → walk_in bounds 0 (w.Key stage ∷ []) (pieces (key_text k ++ spaced words)) ≡ walk_in bounds 0 (line_wants stage.version k) (pieces (spaced words))
key_on bounds stage k words h =
    word_on bounds 0 (w.Key stage) [] (key_text k) (spaced words) (key_solid k) (apart_words words) (ap (λ o. allows_found stage o) (key_again k) ∙ h)
    ∙ ap (λ o. walk_in bounds 0 (wants_found stage o ++ []) (pieces (spaced words))) (key_again k) ∙ ap (λ x. walk_in bounds 0 x (pieces (spaced words))) (append-nil (line_wants stage.version k))

version_on : (bounds : Bounds) (number : List ℕ) → is_solid number ≡ true → bytes_eq number (codes "1") || (bytes_eq number (codes "2") || bytes_eq number (codes "3")) ≡ true
    → walk_in bounds 0 (w.Gap ∷ w.Version ∷ []) (pieces (spaced (number ∷ []))) ≡ None
version_on bounds number solid h = gap_on bounds 0 (w.Version ∷ []) (number ++ []) ∙ word_on bounds 0 w.Version [] number [] solid apart_none h ∙ walk_nil bounds 0 []

seed_on : (bounds : Bounds) (seed height count : ℕ) → seed < 2 ^ 63 → height < 2 ^ 63 → count < 2 ^ 63
    → walk_in bounds 0 (w.Gap ∷ w.Pools ∷ []) (pieces (spaced (codes "seed" ∷ decimal seed ∷ codes "height" ∷ decimal height ∷ codes "count" ∷ decimal count ∷ []))) ≡ None
unfolding is_solid
seed_on bounds seed height count a b c =
    let words : List (List ℕ) = decimal seed ∷ codes "height" ∷ decimal height ∷ codes "count" ∷ decimal count ∷ [] in
    gap_on bounds 0 (w.Pools ∷ []) (codes "seed" ++ spaced words) ∙ word_on bounds 0 w.Pools [] (codes "seed") (spaced words) refl (apart_words words) refl
    ∙ number_on bounds (w.Gap ∷ w.Fixed Height ∷ w.Gap ∷ w.Number ∷ w.Gap ∷ w.Fixed Count ∷ w.Gap ∷ w.Number ∷ []) seed (codes "height" ∷ decimal height ∷ codes "count" ∷ decimal count ∷ []) a
    ∙ fixed_on bounds Height (w.Gap ∷ w.Number ∷ w.Gap ∷ w.Fixed Count ∷ w.Gap ∷ w.Number ∷ []) (decimal height ∷ codes "count" ∷ decimal count ∷ [])
    ∙ number_on bounds (w.Gap ∷ w.Fixed Count ∷ w.Gap ∷ w.Number ∷ []) height (codes "count" ∷ decimal count ∷ []) b
    ∙ fixed_on bounds Count (w.Gap ∷ w.Number ∷ []) (decimal count ∷ []) ∙ number_on bounds [] count [] c ∙ nothing bounds

given_on : (bounds : Bounds) → walk_in bounds 0 (w.Gap ∷ w.Pools ∷ []) (pieces (spaced (codes "given" ∷ []))) ≡ None
unfolding is_solid
given_on bounds = gap_on bounds 0 (w.Pools ∷ []) (codes "given" ++ []) ∙ word_on bounds 0 w.Pools [] (codes "given") [] refl apart_none refl ∙ walk_nil bounds 0 []

sort_first : (bounds : Bounds) (version : Version) (name : List ℕ) → IsOfVersion version (l.SortLine name) → is_name_in bounds name ≡ true → walk_in bounds 0 (line_wants version key.Sort) (pieces (spaced (name ∷ []))) ≡ None
sort_first bounds First name v h = name_on bounds [] name [] h ∙ nothing bounds
sort_first bounds Second name v h = absurd cc
sort_first bounds Third name v h = absurd cc

sort_sized : (bounds : Bounds) (version : Version) (name : List ℕ) (vars width : ℕ) → IsOfVersion version (l.SortLine2 name vars width) → is_name_in bounds name ≡ true → vars < 2 ^ 63 → width < 2 ^ 63
    → walk_in bounds 0 (line_wants version key.Sort) (pieces (spaced (name ∷ decimal vars ∷ decimal width ∷ []))) ≡ None
sort_sized bounds First name vars width v h a b = absurd cc
sort_sized bounds Second name vars width v h a b =
    name_on bounds (w.Gap ∷ w.Number ∷ w.Gap ∷ w.Number ∷ []) name (decimal vars ∷ decimal width ∷ []) h ∙ number_on bounds (w.Gap ∷ w.Number ∷ []) vars (decimal width ∷ []) a ∙ number_on bounds [] width [] b ∙ nothing bounds
sort_sized bounds Third name vars width v h a b =
    name_on bounds (w.Gap ∷ w.Number ∷ w.Gap ∷ w.Number ∷ []) name (decimal vars ∷ decimal width ∷ []) h ∙ number_on bounds (w.Gap ∷ w.Number ∷ []) vars (decimal width ∷ []) a ∙ number_on bounds [] width [] b ∙ nothing bounds

con_plain : (bounds : Bounds) (version : Version) (name : List ℕ) (args : List (List ℕ)) → IsOfVersion version (l.ConLine name args) → is_name_in bounds name ≡ true → AreSorts bounds args
    → walk_in bounds 0 (line_wants version key.Con) (pieces (spaced (name ∷ args))) ≡ None
con_plain bounds First name args v h s = name_on bounds (w.Row r.Sorts 0 0 e.Line ∷ []) name args h ∙ sorts_end bounds args s
con_plain bounds Second name args v h s = name_on bounds (w.Row r.Sorts 0 0 e.Line ∷ []) name args h ∙ sorts_end bounds args s
con_plain bounds Third name args v h s = absurd cc

con_weighted : (bounds : Bounds) (version : Version) (weight : ℕ) (name : List ℕ) (args : List (List ℕ)) → IsOfVersion version (l.ConLine3 weight name args) → weight < 2 ^ 63 → is_name_in bounds name ≡ true → AreSorts bounds args
    → walk_in bounds 0 (line_wants version key.Con) (pieces (spaced (decimal weight ∷ name ∷ args))) ≡ None
con_weighted bounds First weight name args v a h s = absurd cc
con_weighted bounds Second weight name args v a h s = absurd cc
con_weighted bounds Third weight name args v a h s =
    number_on bounds (w.Gap ∷ w.Name ∷ w.Row r.Sorts 0 0 e.Line ∷ []) weight (name ∷ args) a ∙ name_on bounds (w.Row r.Sorts 0 0 e.Line ∷ []) name args h ∙ sorts_end bounds args s

fun_plain : (bounds : Bounds) (version : Version) (name : List ℕ) (args : List (List ℕ)) (result : List ℕ) → IsOfVersion version (l.FunLine name args result) → is_name_in bounds name ≡ true → AreSorts bounds args
    → is_name_in bounds result ≡ true → walk_in bounds 0 (line_wants version key.Fun) (pieces (spaced (name ∷ (args ++ codes "->" ∷ result ∷ [])))) ≡ None
fun_plain bounds First name args result v h s t = name_on bounds (w.Row r.Sorts 0 0 (e.Mark Arrow) ∷ w.Gap ∷ w.Name ∷ []) name (args ++ codes "->" ∷ result ∷ []) h ∙ result_on bounds args result s t
fun_plain bounds Second name args result v h s t = name_on bounds (w.Row r.Sorts 0 0 (e.Mark Arrow) ∷ w.Gap ∷ w.Name ∷ []) name (args ++ codes "->" ∷ result ∷ []) h ∙ result_on bounds args result s t
fun_plain bounds Third name args result v h s t = absurd cc

fun_weighted : (bounds : Bounds) (version : Version) (weight : ℕ) (name : List ℕ) (args : List (List ℕ)) (result : List ℕ) → IsOfVersion version (l.FunLine3 weight name args result) → weight < 2 ^ 63
    → is_name_in bounds name ≡ true → AreSorts bounds args → is_name_in bounds result ≡ true
    → walk_in bounds 0 (line_wants version key.Fun) (pieces (spaced (decimal weight ∷ name ∷ (args ++ codes "->" ∷ result ∷ [])))) ≡ None
fun_weighted bounds First weight name args result v a h s t = absurd cc
fun_weighted bounds Second weight name args result v a h s t = absurd cc
fun_weighted bounds Third weight name args result v a h s t =
    number_on bounds (w.Gap ∷ w.Name ∷ w.Row r.Sorts 0 0 (e.Mark Arrow) ∷ w.Gap ∷ w.Name ∷ []) weight (name ∷ (args ++ codes "->" ∷ result ∷ [])) a
    ∙ name_on bounds (w.Row r.Sorts 0 0 (e.Mark Arrow) ∷ w.Gap ∷ w.Name ∷ []) name (args ++ codes "->" ∷ result ∷ []) h ∙ result_on bounds args result s t

case_on : (bounds : Bounds) (con : List ℕ) (body : RawTerm) → is_name_in bounds con ≡ true → IsTerm bounds p.Body body
    → walk_in bounds 0 (w.Gap ∷ w.Name ∷ w.Gap ∷ w.Fixed Equals ∷ w.Gap ∷ w.Root p.Body e.Line ∷ []) (pieces (spaced (con ∷ codes "=" ∷ term_words body))) ≡ None
case_on bounds con body h t =
    name_on bounds (w.Gap ∷ w.Fixed Equals ∷ w.Gap ∷ w.Root p.Body e.Line ∷ []) con (codes "=" ∷ term_words body) h ∙ fixed_on bounds Equals (w.Gap ∷ w.Root p.Body e.Line ∷ []) (term_words body) ∙ root_end bounds p.Body body t

set_on : (bounds : Bounds) (stage : Stage) (k : Key) (n : ℕ) → allows stage k ≡ true → line_wants stage.version k ≡ setting → n < 2 ^ 63 → walk_in bounds 0 (w.Key stage ∷ []) (pieces (key_text k ++ spaced (decimal n ∷ []))) ≡ None
set_on bounds stage k n a e h = key_on bounds stage k (decimal n ∷ []) a ∙ ap (λ x. walk_in bounds 0 x (pieces (spaced (decimal n ∷ [])))) e ∙ number_on bounds [] n [] h ∙ nothing bounds

-- each line
pub line_on : SpelledIsWalked
unfolding is_solid
line_on bounds stage l.Head a v h = key_on bounds stage key.Signature (codes "1" ∷ []) a ∙ version_on bounds (codes "1") refl refl
line_on bounds stage l.Head2 a v h = key_on bounds stage key.Signature (codes "2" ∷ []) a ∙ version_on bounds (codes "2") refl refl
line_on bounds stage l.Head3 a v h = key_on bounds stage key.Signature (codes "3" ∷ []) a ∙ version_on bounds (codes "3") refl refl
line_on bounds stage (l.Vars n) a v h = set_on bounds stage key.Vars n a refl h
line_on bounds stage (l.Size n) a v h = set_on bounds stage key.Size n a refl h
line_on bounds stage (l.Width n) a v h = set_on bounds stage key.Width n a refl h
line_on bounds stage (l.Budget n) a v h = set_on bounds stage key.Budget n a refl h
line_on bounds stage (l.Pairs n) a v h = set_on bounds stage key.Pairs n a refl h
line_on bounds stage l.PoolsGiven a v h = key_on bounds stage key.Pools (codes "given" ∷ []) a ∙ given_on bounds
line_on bounds stage (l.PoolsSeed seed height count) a v h =
    key_on bounds stage key.Pools (codes "seed" ∷ decimal seed ∷ codes "height" ∷ decimal height ∷ codes "count" ∷ decimal count ∷ []) a ∙ seed_on bounds seed height count h.0 h.1 h.2
line_on bounds stage (l.SortLine name) a v h = key_on bounds stage key.Sort (name ∷ []) a ∙ sort_first bounds stage.version name v h
line_on bounds stage (l.SortLine2 name vars width) a v h = key_on bounds stage key.Sort (name ∷ decimal vars ∷ decimal width ∷ []) a ∙ sort_sized bounds stage.version name vars width v h.0 h.1 h.2
line_on bounds stage (l.ConLine name args) a v h = key_on bounds stage key.Con (name ∷ args) a ∙ con_plain bounds stage.version name args v h.0 h.1
line_on bounds stage (l.ConLine3 weight name args) a v h = key_on bounds stage key.Con (decimal weight ∷ name ∷ args) a ∙ con_weighted bounds stage.version weight name args v h.0 h.1 h.2
line_on bounds stage (l.FunLine name args result) a v h = key_on bounds stage key.Fun (name ∷ (args ++ codes "->" ∷ result ∷ [])) a ∙ fun_plain bounds stage.version name args result v h.0 h.1 h.2
line_on bounds stage (l.FunLine3 weight name args result) a v h =
    key_on bounds stage key.Fun (decimal weight ∷ name ∷ (args ++ codes "->" ∷ result ∷ [])) a ∙ fun_weighted bounds stage.version weight name args result v h.0 h.1 h.2 h.3
line_on bounds stage (l.MatchLine n) a v h = set_on bounds stage key.Match n a refl h
line_on bounds stage (l.BodyLine body) a v h =
    key_on bounds stage key.Body (codes "=" ∷ term_words body) a ∙ fixed_on bounds Equals (w.Gap ∷ w.Root p.Body e.Line ∷ []) (term_words body) ∙ root_end bounds p.Body body h
line_on bounds stage (l.CaseLine con body) a v h = key_on bounds stage key.Case (con ∷ codes "=" ∷ term_words body) a ∙ case_on bounds con body h.0 h.1
line_on bounds stage (l.Explore names) a v h = key_on bounds stage key.Explore names a ∙ names_end bounds names h
line_on bounds stage (l.Background left right) a v h = key_on bounds stage key.Background (term_words left ++ codes "=" ∷ term_words right) a ∙ sides_on bounds left right h.0 h.1
line_on bounds stage l.Pool a v h = key_on bounds stage key.Pool [] a ∙ nothing bounds
line_on bounds stage (l.Values sort values) a v h =
    key_on bounds stage key.Values (sort ∷ map arg_spelling values) a ∙ name_on bounds (w.Row r.Values 1 0 e.Line ∷ []) sort (map arg_spelling values) h.0 ∙ values_on bounds values 0 0 h.2 (some (length values) h.1)
  where
    some : (n : ℕ) → 0 < n → 0 < 0 + n
    some n h = omega arith
line_on bounds stage l.End a v h = key_on bounds stage key.End [] a ∙ nothing bounds
