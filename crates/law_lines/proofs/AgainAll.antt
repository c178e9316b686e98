-- What is spelled is read: whole terms.
use Rattle.std.proofs.Common.{◌≡◌, ℕ, suc, ◌+◌, ◌<◌, ◌≤◌, Bool, true, false, ◌&&◌, List, [], ◌∷◌, ◌++◌, refl, ap, sym, subst, ◌∙◌, arith, map, length, sum, nat_lt, nat_le}
use Rattle.std.proofs.lemmas.Bool.Decides.{nat_tests}
use Rattle.std.proofs.lemmas.List.{append_assoc, length-map}
use Rattle.std.specs.List.{list_all, AllByRecursion}
use Rattle.law_lines.specs.Pieces.{pieces}
use Rattle.law_lines.specs.Pieces.Piece.{opening, closing}
use Rattle.law_lines.specs.declared.raw.RawHead.{RawHead}
use Rattle.law_lines.specs.declared.raw.RawHead.TheVariants.{Name, Var, Param, Field}
use Rattle.law_lines.specs.declared.raw.RawTerm.{RawTerm}
use Rattle.law_lines.specs.declared.raw.RawTerm.TheOpen.{RawTerm-F}
use Rattle.law_lines.specs.declared.raw.RawTerm.TheFolds.{fold-roll-RawTerm, ind-RawTerm, map-RawTerm}
use Rattle.law_lines.specs.declared.raw.RawTerm.TheViews.{roll-RawTerm}
use Rattle.law_lines.specs.declared.want.Want.{Want}
use Rattle.law_lines.specs.declared.want.Want.TheVariants as w
use Rattle.law_lines.specs.declared.want.Bounds.{Bounds}
use Rattle.law_lines.specs.declared.want.Place.{Place}
use Rattle.law_lines.specs.declared.want.Place.TheVariants as p
use Rattle.law_lines.specs.declared.want.Row.TheVariants as r
use Rattle.law_lines.specs.declared.want.Ending.TheVariants as e
use Rattle.law_lines.specs.Spelling.{arg_spelling, arg_step, head_spelling, spaced}
use Rattle.law_lines.specs.Terms.{depth, head_fits, is_name_in, largest, node_count, node_fits, nodes_fit, within}
use Rattle.law_lines.specs.Walk.{walk_in, before_item, item_place}
use Rattle.law_lines.proofs.RowSteps.{both, leaf_text, leaf_count, leaf_depth}
use Rattle.law_lines.proofs.Again.{apart_close, apart_space, bound_by, bound_of, head_atom, item_on, letters_in, letters_solid, taken_on, word_on}
use Rattle.law_lines.proofs.AgainTerms.{Reread, atom_item, item_may, item_opens, node_some, depth_some, sum_more, larger_both, terms_on}

leaf_again : (bounds : Bounds) (head : RawHead) → Reread bounds (roll-RawTerm (record { head = head; args = [] }))
leaf_again bounds head = λ n row level count ending rest bs is_row mark fits few deep room apart.
    let c = leaf_count head in let d = leaf_depth head in
    let leaf = roll-RawTerm (record { head = head; args = [] }) in
    let f = both (head_fits bounds (item_place row) head true) (within bounds 8 0 && true) (sym (fold-roll-RawTerm Bool (node_fits bounds (item_place row)) (record { head = head; args = [] })) ∙ fits) in
    let a = head_atom bounds (item_place row) head f.0 in
    ap (λ l. walk_in bounds n (w.Item row level count ending ∷ rest) (pieces (l ++ bs))) (leaf_text head)
    ∙ item_on bounds n row level count ending rest (head_spelling head) bs a.solid apart (a.no_mark ending mark) (item_may bounds n row level count is_row room (bound_by bounds (before_item row n + node_count leaf ≤ 4096) (before_item row n < 4096) (λ h. omega arith) few)
    (bound_by bounds (level + depth leaf ≤ 257) (level ≤ 256) (λ h. omega arith) deep)) (atom_item bounds row level (head_spelling head) is_row a.atom)
    ∙ ap (λ k. walk_in bounds (before_item row n + k) (w.Row row level (count + 1) ending ∷ rest) (pieces bs)) (sym c)

-- a head with arguments is a name
named_by : (bounds : Bounds) (place : Place) (head : RawHead) → head_fits bounds place head false ≡ true → is_name_in bounds (head_spelling head) ≡ true
named_by bounds place (Name name) h = h
named_by bounds p.Equation (Var sort index) h = absurd cc
named_by bounds p.Body (Var sort index) h = absurd cc
named_by bounds p.Value (Var sort index) h = absurd cc
named_by bounds p.Equation (Param index) h = absurd cc
named_by bounds p.Body (Param index) h = absurd cc
named_by bounds p.Value (Param index) h = absurd cc
named_by bounds p.Equation (Field index) h = absurd cc
named_by bounds p.Body (Field index) h = absurd cc
named_by bounds p.Value (Field index) h = absurd cc

some_test : (n : ℕ) → nat_lt 0 (0 + suc n) ≡ true
some_test n = grind (arith, nat_tests)

branch_again : (bounds : Bounds) (head : RawHead) (x : RawTerm) (terms : List RawTerm) → AllByRecursion (Reread bounds) (x ∷ terms) → Reread bounds (roll-RawTerm (record { head = head; args = x ∷ terms }))
branch_again bounds head x terms all = λ n row level count ending rest bs is_row mark fits few deep room apart.
    let layer : RawTerm-F RawTerm = record { head = head; args = x ∷ terms } in
    let ts : List RawTerm = x ∷ terms in
    let place = item_place row in
    let t = fold-roll-RawTerm (List ℕ) arg_step layer in
    let c = fold-roll-RawTerm ℕ (λ term. 1 + sum term.args) layer in
    let d = fold-roll-RawTerm ℕ (λ term. 1 + largest term.args) layer in
    let f = both (head_fits bounds place head false) (within bounds 8 (length (map (nodes_fit bounds place) ts)) && list_all (λ b. b) (map (nodes_fit bounds place) ts)) (sym (fold-roll-RawTerm Bool (node_fits bounds place) layer) ∙ fits) in
    let g = both (within bounds 8 (length (map (nodes_fit bounds place) ts))) (list_all (λ b. b) (map (nodes_fit bounds place) ts)) f.1 in
    let eight = bound_of bounds 8 (length (map (nodes_fit bounds place) ts)) g.0 in
    let same = length-map ts (nodes_fit bounds place) in
    let named = named_by bounds place head f.0 in
    let s = sum_more (node_count x) (map node_count terms) in
    let one = node_some x in let up = depth_some x in
    let q = larger_both (nat_le (depth x) (largest (map depth terms))) (depth x) (largest (map depth terms)) refl in
    let all_few = bound_by bounds (before_item row n + node_count (roll-RawTerm layer) ≤ 4096) ((before_item row n + 1) + sum (map node_count ts) ≤ 4096) (λ h. omega arith) few in
    let all_deep = bound_by bounds (level + depth (roll-RawTerm layer) ≤ 257) ((level + 1) + largest (map depth ts) ≤ 257) (λ h. omega arith) deep in
    let inner : List Want = w.Row row level (count + 1) ending ∷ rest in
    ap (λ l. walk_in bounds n (w.Item row level count ending ∷ rest) (pieces (l ++ bs))) t
    ∙ taken_on bounds n (w.Item row level count ending) rest opening (pieces ((head_spelling head ++ (spaced (map arg_spelling ts) ++ 41 ∷ [])) ++ bs)) (item_opens bounds n row level count is_row room (bound_by bounds ((before_item row n + 1) + sum (map node_count ts) ≤ 4096) (before_item row n < 4095) (λ h. omega arith) all_few)
    (bound_by bounds ((level + 1) + largest (map depth ts) ≤ 257) (level < 256) (λ h. omega arith) all_deep))
    ∙ ap (λ l. walk_in bounds (before_item row n) (w.Head ∷ w.Row (r.Args place) (level + 1) 0 e.Bracket ∷ inner) (pieces l))
    (append_assoc (head_spelling head) (spaced (map arg_spelling ts) ++ 41 ∷ []) bs ∙ ap (λ l. head_spelling head ++ l) (append_assoc (spaced (map arg_spelling ts)) (41 ∷ []) bs))
    ∙ word_on bounds (before_item row n) w.Head (w.Row (r.Args place) (level + 1) 0 e.Bracket ∷ inner) (head_spelling head) (spaced (map arg_spelling ts) ++ 41 ∷ bs) (letters_solid (head_spelling head) (letters_in bounds (head_spelling head) named))
    (apart_space ((arg_spelling x ++ spaced (map arg_spelling terms)) ++ 41 ∷ bs)) named
    ∙ terms_on bounds place ts (before_item row n + 1) (level + 1) 0 e.Bracket inner (41 ∷ bs) all tt g.1 all_few all_deep (bound_by bounds (length (map (nodes_fit bounds place) ts) ≤ 8) (0 + length ts ≤ 8) (λ h. omega arith) eight) (apart_close bs)
    ∙ taken_on bounds ((before_item row n + 1) + sum (map node_count ts)) (w.Row (r.Args place) (level + 1) (0 + length ts) e.Bracket) inner closing (pieces bs) (some_test (length terms))
    ∙ ap (λ k. walk_in bounds k inner (pieces bs)) (total (before_item row n) (sum (map node_count ts)) (node_count (roll-RawTerm layer)) c)
  where
    total : (b s k : ℕ) → k ≡ 1 + s → (b + 1) + s ≡ b + k
    total b s k h = omega arith

all_of : (bounds : Bounds) (pairs : List ((t : RawTerm) × Reread bounds t)) → AllByRecursion (Reread bounds) (map (λ q. q.0) pairs)
all_of bounds [] = tt
all_of bounds (pair ∷ pairs) = (pair.1, all_of bounds pairs)

again_by : (bounds : Bounds) (head : RawHead) (pairs : List ((t : RawTerm) × Reread bounds t)) → Reread bounds (roll-RawTerm (record { head = head; args = map (λ q. q.0) pairs }))
again_by bounds head [] = leaf_again bounds head
again_by bounds head (pair ∷ pairs) = branch_again bounds head pair.0 (map (λ q. q.0) pairs) (all_of bounds (pair ∷ pairs))

again_step : (bounds : Bounds) (y : RawTerm-F ((t : RawTerm) × Reread bounds t)) → Reread bounds (roll-RawTerm (map-RawTerm ((t : RawTerm) × Reread bounds t) RawTerm (λ q. q.0) y))
again_step bounds y = again_by bounds y.head y.args

pub again : (bounds : Bounds) (term : RawTerm) → Reread bounds term
again bounds = ind-RawTerm (Reread bounds) (λ x y is. subst (λ z. Reread bounds (roll-RawTerm z)) is (again_step bounds y))

pub all_again : (bounds : Bounds) (terms : List RawTerm) → AllByRecursion (Reread bounds) terms
all_again bounds [] = tt
all_again bounds (term ∷ terms) = (again bounds term, all_again bounds terms)
