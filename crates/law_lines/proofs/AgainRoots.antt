-- What is spelled is read: terms by themselves, and rows of values.
use Rattle.std.proofs.Common.{◌≡◌, ℕ, ◌+◌, ◌<◌, ◌≤◌, Bool, true, false, ◌&&◌, List, [], ◌∷◌, ◌++◌, Some, None, refl, ap, sym, subst, ◌∙◌, arith, map, length, sum, nat_lt, decimal}
use Rattle.std.proofs.lemmas.Bool.Decides.{nat_tests}
use Rattle.std.proofs.lemmas.List.{length-map}
use Rattle.std.specs.List.{list_all}
use Rattle.law_lines.specs.Words.{is_word_of_letters}
use Rattle.law_lines.specs.Pieces.{pieces}
use Rattle.law_lines.specs.Pieces.Piece.{space}
use Rattle.law_lines.proofs.FirstPieces.{begins_apart}
use Rattle.law_lines.specs.declared.raw.RawHead.{RawHead}
use Rattle.law_lines.specs.declared.raw.RawHead.TheVariants.{Name, Var, Param, Field}
use Rattle.law_lines.specs.declared.raw.RawTerm.{RawTerm}
use Rattle.law_lines.specs.declared.raw.RawTerm.TheFolds.{fold_out-RawTerm}
use Rattle.law_lines.specs.declared.raw.RawTerm.TheViews.{out-RawTerm}
use Rattle.law_lines.specs.declared.want.Want.{Want}
use Rattle.law_lines.specs.declared.want.Want.TheVariants as w
use Rattle.law_lines.specs.declared.want.Bounds.{Bounds}
use Rattle.law_lines.specs.declared.want.Place.{Place}
use Rattle.law_lines.specs.declared.want.Place.TheVariants as p
use Rattle.law_lines.specs.declared.want.Mark.{Mark}
use Rattle.law_lines.specs.declared.want.Mark.TheVariants.{Equals, Arrow, Height, Count}
use Rattle.law_lines.specs.declared.want.Row.{Row}
use Rattle.law_lines.specs.declared.want.Row.TheVariants as r
use Rattle.law_lines.specs.declared.want.Ending.{Ending}
use Rattle.law_lines.specs.declared.want.Ending.TheVariants as e
use Rattle.law_lines.specs.Spelling.{arg_spelling, head_spelling, spaced, term_words}
use Rattle.law_lines.specs.Terms.{IsTerm, depth, head_fits, is_empty, is_name_in, largest, node_count, node_fits, nodes_fit, within}
use Rattle.law_lines.specs.Lines.{AreValues}
use Rattle.law_lines.specs.Walk.{walk_in, behind, is_atom, end_fault, mark_text, root_moved}
use Rattle.law_lines.specs.Numbers.{cut}
use Rattle.law_lines.proofs.RowSteps.{both}
use Rattle.law_lines.proofs.Cuts.{no_cut}
use Rattle.law_lines.proofs.Walks.{walk_nil}
use Rattle.law_lines.proofs.Again.{Bound, RowMark, all_named, apart_none, apart_space, bound_by, bound_of, cut_at_dot, gap_on, head_atom, is_solid, letters_in, letters_solid, no_bound, or_left, space_on, taken_on, word_on}
use Rattle.law_lines.proofs.AgainTerms.{apart_spaced, spaced_is, terms_on}
use Rattle.law_lines.proofs.AgainAll.{again, all_again}

-- behind a row: the fixed word, or the end
pub mark_on : (bounds : Bounds) (m : ℕ) (row : Row) (level count : ℕ) (mark : Mark) (rest : List Want) (bs : List ℕ) → RowMark (e.Mark mark) → begins_apart bs ≡ true
    → walk_in bounds m (w.Row row level count (e.Mark mark) ∷ rest) (pieces (32 ∷ (mark_text mark ++ bs))) ≡ walk_in bounds 0 rest (pieces bs)
unfolding is_solid
mark_on bounds m row level count Equals rest bs h apart =
    taken_on bounds m (w.Row row level count (e.Mark Equals)) rest space (pieces (mark_text Equals ++ bs)) refl
    ∙ word_on bounds m (w.Item row level count (e.Mark Equals)) rest (mark_text Equals) bs refl apart refl
mark_on bounds m row level count Arrow rest bs h apart =
    taken_on bounds m (w.Row row level count (e.Mark Arrow)) rest space (pieces (mark_text Arrow ++ bs)) refl
    ∙ word_on bounds m (w.Item row level count (e.Mark Arrow)) rest (mark_text Arrow) bs refl apart refl
mark_on bounds m row level count Height rest bs h apart = absurd h
mark_on bounds m row level count Count rest bs h apart = absurd h

pub gap_mark_on : (bounds : Bounds) (mark : Mark) (rest : List Want) (bs : List ℕ) → begins_apart bs ≡ true → walk_in bounds 0 (w.Gap ∷ w.Fixed mark ∷ rest) (pieces (32 ∷ (mark_text mark ++ bs))) ≡ walk_in bounds 0 rest (pieces bs)
unfolding is_solid
gap_mark_on bounds Equals rest bs apart = gap_on bounds 0 (w.Fixed Equals ∷ rest) (mark_text Equals ++ bs) ∙ word_on bounds 0 (w.Fixed Equals) rest (mark_text Equals) bs refl apart refl
gap_mark_on bounds Arrow rest bs apart = gap_on bounds 0 (w.Fixed Arrow ∷ rest) (mark_text Arrow ++ bs) ∙ word_on bounds 0 (w.Fixed Arrow) rest (mark_text Arrow) bs refl apart refl
gap_mark_on bounds Height rest bs apart = gap_on bounds 0 (w.Fixed Height ∷ rest) (mark_text Height ++ bs) ∙ word_on bounds 0 (w.Fixed Height) rest (mark_text Height) bs refl apart refl
gap_mark_on bounds Count rest bs apart = gap_on bounds 0 (w.Fixed Count ∷ rest) (mark_text Count ++ bs) ∙ word_on bounds 0 (w.Fixed Count) rest (mark_text Count) bs refl apart refl

-- What stands behind a term by itself, and where the walk is behind that.
abbrev pub Tail : Ending → List Want → List ℕ → List ℕ → Type 0
Tail e.Line rest tail bs = (rest ≡ []) × (tail ≡ []) × (bs ≡ [])
Tail e.Bracket rest tail bs = ⊥
Tail (e.Mark mark) rest tail bs = RowMark (e.Mark mark) × (tail ≡ 32 ∷ (mark_text mark ++ bs)) × (begins_apart bs ≡ true)

tail_apart : (ending : Ending) (rest : List Want) (tail bs : List ℕ) → Tail ending rest tail bs → begins_apart tail ≡ true
tail_apart e.Line rest tail bs h = subst (λ l. begins_apart l ≡ true) (sym h.1) apart_none
tail_apart e.Bracket rest tail bs h = absurd h
tail_apart (e.Mark mark) rest tail bs h = subst (λ l. begins_apart l ≡ true) (sym h.1) (apart_space (mark_text mark ++ bs))

tail_mark : (ending : Ending) (rest : List Want) (tail bs : List ℕ) → Tail ending rest tail bs → RowMark ending
tail_mark e.Line rest tail bs h = tt
tail_mark e.Bracket rest tail bs h = absurd h
tail_mark (e.Mark mark) rest tail bs h = h.0

row_tail : (bounds : Bounds) (m : ℕ) (place : Place) (level count : ℕ) (ending : Ending) (rest : List Want) (tail bs : List ℕ) → Tail ending rest tail bs
    → walk_in bounds m (w.Row (r.Args place) level count ending ∷ rest) (pieces tail) ≡ walk_in bounds 0 rest (pieces bs)
row_tail bounds m place level count e.Line rest tail bs h =
    ap (λ l. walk_in bounds m (w.Row (r.Args place) level count e.Line ∷ l) (pieces tail)) h.0 ∙ ap (λ l. walk_in bounds m (w.Row (r.Args place) level count e.Line ∷ []) (pieces l)) h.1
    ∙ walk_nil bounds m (w.Row (r.Args place) level count e.Line ∷ []) ∙ sym (walk_nil bounds 0 []) ∙ ap (λ l. walk_in bounds 0 [] (pieces l)) (sym h.2) ∙ ap (λ l. walk_in bounds 0 l (pieces bs)) (sym h.0)
row_tail bounds m place level count e.Bracket rest tail bs h = absurd h
row_tail bounds m place level count (e.Mark mark) rest tail bs h =
    ap (λ l. walk_in bounds m (w.Row (r.Args place) level count (e.Mark mark) ∷ rest) (pieces l)) h.1 ∙ mark_on bounds m (r.Args place) level count mark rest bs h.0 h.2

behind_tail : (bounds : Bounds) (ending : Ending) (rest : List Want) (tail bs : List ℕ) → Tail ending rest tail bs → walk_in bounds 0 (behind ending rest) (pieces tail) ≡ walk_in bounds 0 rest (pieces bs)
behind_tail bounds e.Line rest tail bs h = ap (λ l. walk_in bounds 0 rest (pieces l)) (h.1 ∙ sym h.2)
behind_tail bounds e.Bracket rest tail bs h = absurd h
behind_tail bounds (e.Mark mark) rest tail bs h = ap (λ l. walk_in bounds 0 (w.Gap ∷ w.Fixed mark ∷ rest) (pieces l)) h.1 ∙ gap_mark_on bounds mark rest bs h.2

-- a term that begins with a name
named_on : (bounds : Bounds) (place : Place) (name : List ℕ) (args : List RawTerm) (ending : Ending) (rest : List Want) (tail bs : List ℕ) → Tail ending rest tail bs → is_name_in bounds name ≡ true
    → list_all (λ b. b) (map (nodes_fit bounds place) args) ≡ true → Bound bounds (length args ≤ 8) → Bound bounds (1 + sum (map node_count args) ≤ 4096) → Bound bounds (1 + largest (map depth args) ≤ 256)
    → walk_in bounds 0 (w.Root place ending ∷ rest) (pieces (name ++ (spaced (map arg_spelling args) ++ tail))) ≡ walk_in bounds 0 rest (pieces bs)
named_on bounds place name args ending rest tail bs h named fits few size deep =
    word_on bounds 0 (w.Root place ending) rest name (spaced (map arg_spelling args) ++ tail) (letters_solid name (letters_in bounds name named)) (apart_spaced (map arg_spelling args) tail (tail_apart ending rest tail bs h)) (or_left (is_name_in bounds name) _ named)
    ∙ ap (λ b. walk_in bounds (root_moved b place ending rest).nodes (root_moved b place ending rest).wants (pieces (spaced (map arg_spelling args) ++ tail))) (letters_in bounds name named)
    ∙ terms_on bounds place args 1 2 0 ending rest tail (all_again bounds args) (tail_mark ending rest tail bs h) fits size
    (bound_by bounds (1 + largest (map depth args) ≤ 256) (2 + largest (map depth args) ≤ 257) (λ h. omega arith) deep)
    (bound_by bounds (length args ≤ 8) (0 + length args ≤ 8) (λ h. omega arith) few) (tail_apart ending rest tail bs h)
    ∙ row_tail bounds (1 + sum (map node_count args)) place 2 (0 + length args) ending rest tail bs h

-- another atom
no_letters_by : (b : Bool) (bytes : List ℕ) (parts : List ℕ × List ℕ) → is_word_of_letters bytes ≡ b → cut bytes ≡ Some parts → b ≡ false
no_letters_by true bytes parts h e = let n = no_cut bytes (all_named bytes h) in absurd cc
no_letters_by false bytes parts h e = refl

special_on : (bounds : Bounds) (place : Place) (bytes : List ℕ) (ending : Ending) (rest : List Want) (tail bs : List ℕ) → Tail ending rest tail bs → is_solid bytes ≡ true
    → is_atom bounds place bytes ≡ true → is_word_of_letters bytes ≡ false → walk_in bounds 0 (w.Root place ending ∷ rest) (pieces (bytes ++ tail)) ≡ walk_in bounds 0 rest (pieces bs)
special_on bounds place bytes ending rest tail bs h solid taken letters =
    word_on bounds 0 (w.Root place ending) rest bytes tail solid (tail_apart ending rest tail bs h) taken
    ∙ ap (λ b. walk_in bounds (root_moved b place ending rest).nodes (root_moved b place ending rest).wants (pieces tail)) letters ∙ behind_tail bounds ending rest tail bs h

-- by its head
layer_on : (bounds : Bounds) (place : Place) (head : RawHead) (args : List RawTerm) (ending : Ending) (rest : List Want) (tail bs : List ℕ) → Tail ending rest tail bs → head_fits bounds place head (is_empty args) ≡ true
    → list_all (λ b. b) (map (nodes_fit bounds place) args) ≡ true → Bound bounds (length args ≤ 8) → Bound bounds (1 + sum (map node_count args) ≤ 4096) → Bound bounds (1 + largest (map depth args) ≤ 256)
    → walk_in bounds 0 (w.Root place ending ∷ rest) (pieces (head_spelling head ++ (spaced (map arg_spelling args) ++ tail))) ≡ walk_in bounds 0 rest (pieces bs)
layer_on bounds place (Name name) args ending rest tail bs h f fits few size deep = named_on bounds place name args ending rest tail bs h f fits few size deep
layer_on bounds p.Equation (Var sort index) [] ending rest tail bs h f fits few size deep =
    let a = head_atom bounds p.Equation (Var sort index) f in
    let named = (both (is_name_in bounds sort) _ f).0 in
    special_on bounds p.Equation (head_spelling (Var sort index)) ending rest tail bs h a.solid a.atom
    (no_letters_by (is_word_of_letters (head_spelling (Var sort index))) (head_spelling (Var sort index)) (sort, decimal index) refl (cut_at_dot sort (decimal index) (all_named sort (letters_in bounds sort named))))
layer_on bounds p.Body (Param n) [] ending rest tail bs h f fits few size deep =
    let a = head_atom bounds p.Body (Param n) f in special_on bounds p.Body (head_spelling (Param n)) ending rest tail bs h a.solid a.atom refl
layer_on bounds p.Body (Field n) [] ending rest tail bs h f fits few size deep =
    let a = head_atom bounds p.Body (Field n) f in special_on bounds p.Body (head_spelling (Field n)) ending rest tail bs h a.solid a.atom refl
layer_on bounds p.Equation (Var sort index) (x ∷ args) ending rest tail bs h f fits few size deep = absurd cc
layer_on bounds p.Body (Param n) (x ∷ args) ending rest tail bs h f fits few size deep = absurd cc
layer_on bounds p.Body (Field n) (x ∷ args) ending rest tail bs h f fits few size deep = absurd cc
layer_on bounds p.Equation (Param n) args ending rest tail bs h f fits few size deep = absurd cc
layer_on bounds p.Equation (Field n) args ending rest tail bs h f fits few size deep = absurd cc
layer_on bounds p.Body (Var sort index) args ending rest tail bs h f fits few size deep = absurd cc
layer_on bounds p.Value (Var sort index) args ending rest tail bs h f fits few size deep = absurd cc
layer_on bounds p.Value (Param n) args ending rest tail bs h f fits few size deep = absurd cc
layer_on bounds p.Value (Field n) args ending rest tail bs h f fits few size deep = absurd cc

pub root_on : (bounds : Bounds) (place : Place) (term : RawTerm) (ending : Ending) (rest : List Want) (tail bs : List ℕ) → Tail ending rest tail bs → IsTerm bounds place term
    → walk_in bounds 0 (w.Gap ∷ w.Root place ending ∷ rest) (pieces (spaced (term_words term) ++ tail)) ≡ walk_in bounds 0 rest (pieces bs)
root_on bounds place term ending rest tail bs h is_term =
    let head = (out-RawTerm term).head in let args = (out-RawTerm term).args in
    let f = both (head_fits bounds place head (is_empty (map (nodes_fit bounds place) args))) _ (sym (fold_out-RawTerm Bool (node_fits bounds place) term) ∙ is_term.nodes) in
    let g = both (within bounds 8 (length (map (nodes_fit bounds place) args))) (list_all (λ b. b) (map (nodes_fit bounds place) args)) f.1 in
    let eight = bound_of bounds 8 (length (map (nodes_fit bounds place) args)) g.0 in
    let same = length-map args (nodes_fit bounds place) in
    let c = fold_out-RawTerm ℕ (λ layer. 1 + sum layer.args) term in
    let d = fold_out-RawTerm ℕ (λ layer. 1 + largest layer.args) term in
    let size = bound_of bounds 4096 (node_count term) is_term.size in
    let deep = bound_of bounds 256 (depth term) is_term.deep in
    ap (λ l. walk_in bounds 0 (w.Gap ∷ w.Root place ending ∷ rest) (pieces l)) (spaced_is (head_spelling head) (map arg_spelling args) tail)
    ∙ gap_on bounds 0 (w.Root place ending ∷ rest) (head_spelling head ++ (spaced (map arg_spelling args) ++ tail))
    ∙ layer_on bounds place head args ending rest tail bs h (ap (λ b. head_fits bounds place head b) (same_empty args) ∙ f.0) g.1
    (bound_by bounds (length (map (nodes_fit bounds place) args) ≤ 8) (length args ≤ 8) (λ h. omega arith) eight)
    (bound_by bounds (node_count term ≤ 4096) (1 + sum (map node_count args) ≤ 4096) (λ h. omega arith) size)
    (bound_by bounds (depth term ≤ 256) (1 + largest (map depth args) ≤ 256) (λ h. omega arith) deep)
  where
    same_empty : (args : List RawTerm) → is_empty args ≡ is_empty (map (nodes_fit bounds place) args)
    same_empty [] = refl
    same_empty (x ∷ args) = refl

-- values, each by itself
pub values_on : (bounds : Bounds) (terms : List RawTerm) (n count : ℕ) → AreValues bounds terms → 0 < count + length terms → walk_in bounds n (w.Row r.Values 1 count e.Line ∷ []) (pieces (spaced (map arg_spelling terms))) ≡ None
values_on bounds [] n count h some = walk_nil bounds n (w.Row r.Values 1 count e.Line ∷ []) ∙ ap (λ b. end_fault (b && true)) (some_count count (omega arith))
  where
    some_count : (n : ℕ) → 0 < n → nat_lt 0 n ≡ true
    some_count n h = grind (arith, nat_tests)
values_on bounds (x ∷ terms) n count h some =
    let size = bound_of bounds 4096 (node_count x) h.0.size in
    let deep = bound_of bounds 256 (depth x) h.0.deep in
    space_on bounds n r.Values 1 count e.Line [] (arg_spelling x ++ spaced (map arg_spelling terms)) refl
    ∙ again bounds x n r.Values 1 count e.Line [] (spaced (map arg_spelling terms)) refl tt h.0.nodes (bound_by bounds (node_count x ≤ 4096) (0 + node_count x ≤ 4096) (λ l. omega arith) size)
    (bound_by bounds (depth x ≤ 256) (1 + depth x ≤ 257) (λ l. omega arith) deep) (no_bound bounds) (apart_words (map arg_spelling terms))
    ∙ values_on bounds terms (0 + node_count x) (count + 1) h.1 (omega arith)
  where
    apart_words : (words : List (List ℕ)) → begins_apart (spaced words) ≡ true
    apart_words [] = apart_none
    apart_words (word ∷ words) = apart_space (word ++ spaced words)
