-- What is spelled is read: rows of names and terms.
use Rattle.std.proofs.Common.{◌≡◌, ℕ, suc, ◌+◌, ◌<◌, ◌≤◌, Bool, true, false, List, [], ◌∷◌, ◌++◌, refl, ap, ◌∙◌, arith, map, length, sum, nat_lt, nat_le}
use Rattle.std.proofs.lemmas.Bool.Decides.{nat_tests}
use Rattle.std.proofs.lemmas.Grind.{common_steps}
use Rattle.std.proofs.lemmas.List.{append_assoc}
use Rattle.std.specs.List.{list_all, AllByRecursion}
use Rattle.law_lines.specs.Pieces.{pieces}
use Rattle.law_lines.proofs.FirstPieces.{begins_apart}
use Rattle.law_lines.specs.declared.raw.RawTerm.{RawTerm}
use Rattle.law_lines.specs.declared.raw.RawTerm.TheFolds.{fold_out-RawTerm}
use Rattle.law_lines.specs.declared.want.Want.{Want}
use Rattle.law_lines.specs.declared.want.Want.TheVariants as w
use Rattle.law_lines.specs.declared.want.Bounds.{Bounds}
use Rattle.law_lines.specs.declared.want.Bounds.TheVariants.{Kept, Free}
use Rattle.law_lines.specs.declared.want.Place.{Place}
use Rattle.law_lines.specs.declared.want.Row.{Row}
use Rattle.law_lines.specs.declared.want.Row.TheVariants as r
use Rattle.law_lines.specs.declared.want.Ending.{Ending}
use Rattle.law_lines.specs.Spelling.{arg_spelling, spaced}
use Rattle.law_lines.specs.Terms.{depth, is_name_in, larger, largest, node_count, nodes_fit}
use Rattle.law_lines.specs.Walk.{walk_in, is_atom, is_item, may_come, may_open, before_item, item_place}
use Rattle.law_lines.specs.Rows.{HasRoom, IsTermRow}
use Rattle.law_lines.proofs.RowSteps.{both}
use Rattle.law_lines.proofs.Again.{Bound, RowMark, and_true, apart_space, bound_by, item_on, letters_in, letters_solid, name_unmarked, space_on}

pub less : (n k : ℕ) → n < k → nat_lt n k ≡ true
less n k h = grind (arith, nat_tests)

pub low : (n k : ℕ) → n ≤ k → nat_le n k ≡ true
low n k h = grind (arith, nat_tests)

pub apart_spaced : (words : List (List ℕ)) (bs : List ℕ) → begins_apart bs ≡ true → begins_apart (spaced words ++ bs) ≡ true
apart_spaced [] bs h = h
apart_spaced (x ∷ words) bs h = apart_space ((x ++ spaced words) ++ bs)

pub spaced_is : (x : List ℕ) (words : List (List ℕ)) (bs : List ℕ) → spaced (x ∷ words) ++ bs ≡ 32 ∷ (x ++ (spaced words ++ bs))
spaced_is x words bs = append_assoc (32 ∷ x) (spaced words) bs

-- names in a row
abbrev pub NamesRoom : (bounds : Bounds) → Row → ℕ → ℕ → Type 0
NamesRoom bounds r.Sorts count more = Bound bounds (count + more ≤ 8)
NamesRoom bounds r.Names count more = Unit {0}
NamesRoom bounds (r.Args place) count more = ⊥
NamesRoom bounds r.Values count more = ⊥

pub name_may : (bounds : Bounds) (n : ℕ) (row : Row) (count more : ℕ) → NamesRoom bounds row count (suc more) → may_come bounds n row 0 count ≡ true
name_may Kept n r.Sorts count more h = less count 8 (omega arith)
name_may Free n r.Sorts count more h = refl
name_may bounds n r.Names count more h = refl
name_may bounds n (r.Args place) count more h = absurd h
name_may bounds n r.Values count more h = absurd h

name_item : (bounds : Bounds) (row : Row) (count more : ℕ) (bytes : List ℕ) → NamesRoom bounds row count more → is_name_in bounds bytes ≡ true → is_item bounds row bytes ≡ true
name_item bounds r.Sorts count more bytes h g = g
name_item bounds r.Names count more bytes h g = g
name_item bounds (r.Args place) count more bytes h g = absurd h
name_item bounds r.Values count more bytes h g = absurd h

room_next : (bounds : Bounds) (row : Row) (count more : ℕ) → NamesRoom bounds row count (suc more) → NamesRoom bounds row (count + 1) more
room_next bounds r.Sorts count more h = bound_by bounds (count + suc more ≤ 8) ((count + 1) + more ≤ 8) (λ l. omega arith) h
room_next bounds r.Names count more h = tt
room_next bounds (r.Args place) count more h = absurd h
room_next bounds r.Values count more h = absurd h

pub counted : (n m : ℕ) → (n + 1) + m ≡ n + suc m
counted n m = omega arith

pub names_on : (bounds : Bounds) (names : List (List ℕ)) (n : ℕ) (row : Row) (count : ℕ) (ending : Ending) (rest : List Want) (bs : List ℕ) → RowMark ending → list_all (is_name_in bounds) names ≡ true
    → NamesRoom bounds row count (length names) → begins_apart bs ≡ true
    → (m : ℕ) × (walk_in bounds n (w.Row row 0 count ending ∷ rest) (pieces (spaced names ++ bs)) ≡ walk_in bounds m (w.Row row 0 (count + length names) ending ∷ rest) (pieces bs))
names_on bounds [] n row count ending rest bs mark h room apart = (n, ap (λ k. walk_in bounds n (w.Row row 0 k ending ∷ rest) (pieces bs)) (plus_none count))
  where
    plus_none : (n : ℕ) → n ≡ n + 0
    plus_none n = omega arith
names_on bounds (x ∷ names) n row count ending rest bs mark h room apart =
    let q = both (is_name_in bounds x) (list_all (is_name_in bounds) names) h in
    let next = names_on bounds names (before_item row n + 1) row (count + 1) ending rest bs mark q.1 (room_next bounds row count (length names) room) apart in
    let may = name_may bounds n row count (length names) room in (
      next.0,
      ap (λ l. walk_in bounds n (w.Row row 0 count ending ∷ rest) (pieces l)) (spaced_is x names bs)
          ∙ space_on bounds n row 0 count ending rest (x ++ (spaced names ++ bs)) may
          ∙ item_on bounds n row 0 count ending rest x (spaced names ++ bs) (letters_solid x (letters_in bounds x q.0)) (apart_spaced names bs apart) (name_unmarked bounds x ending q.0 mark) may (name_item bounds row count (suc (length names)) x room q.0)
          ∙ next.1
          ∙ ap (λ k. walk_in bounds next.0 (w.Row row 0 k ending ∷ rest) (pieces bs)) (counted count (length names)),
    )

-- terms in a row
pub node_some : (term : RawTerm) → 0 < node_count term
node_some term = let e = fold_out-RawTerm ℕ (λ layer. 1 + sum layer.args) term in omega arith

pub depth_some : (term : RawTerm) → 0 < depth term
depth_some term = let e = fold_out-RawTerm ℕ (λ layer. 1 + largest layer.args) term in omega arith

pub item_may : (bounds : Bounds) (n : ℕ) (row : Row) (level count : ℕ) → IsTermRow row level → Bound bounds (HasRoom row count) → Bound bounds (before_item row n < 4096) → Bound bounds (level ≤ 256)
    → may_come bounds n row level count ≡ true
item_may bounds n r.Sorts level count row room few deep = absurd row
item_may bounds n r.Names level count row room few deep = absurd row
item_may Kept n (r.Args place) level count row room few deep = and_true _ _ (less count 8 room) (and_true _ _ (less n 4096 few) (low level 256 deep))
item_may Free n (r.Args place) level count row room few deep = refl
item_may bounds n r.Values level count row room few deep = refl

pub item_opens : (bounds : Bounds) (n : ℕ) (row : Row) (level count : ℕ) → IsTermRow row level → Bound bounds (HasRoom row count) → Bound bounds (before_item row n < 4095) → Bound bounds (level < 256)
    → may_open bounds n row level count ≡ true
item_opens bounds n r.Sorts level count row room few deep = absurd row
item_opens bounds n r.Names level count row room few deep = absurd row
item_opens Kept n (r.Args place) level count row room few deep = and_true _ _ (less count 8 room) (and_true _ _ (less n 4095 few) (less level 256 deep))
item_opens Free n (r.Args place) level count row room few deep = refl
item_opens bounds n r.Values level count row room few deep = refl

pub atom_item : (bounds : Bounds) (row : Row) (level : ℕ) (bytes : List ℕ) → IsTermRow row level → is_atom bounds (item_place row) bytes ≡ true → is_item bounds row bytes ≡ true
atom_item bounds r.Sorts level bytes row h = absurd row
atom_item bounds r.Names level bytes row h = absurd row
atom_item bounds (r.Args place) level bytes row h = h
atom_item bounds r.Values level bytes row h = h

abbrev pub Reread : (bounds : Bounds) → RawTerm → Type 0
Reread bounds term = (n : ℕ) (row : Row) (level count : ℕ) (ending : Ending) (rest : List Want) (bs : List ℕ) → IsTermRow row level → RowMark ending
    → nodes_fit bounds (item_place row) term ≡ true → Bound bounds (before_item row n + node_count term ≤ 4096) → Bound bounds (level + depth term ≤ 257) → Bound bounds (HasRoom row count) → begins_apart bs ≡ true
    → walk_in bounds n (w.Item row level count ending ∷ rest) (pieces (arg_spelling term ++ bs)) ≡ walk_in bounds (before_item row n + node_count term) (w.Row row level (count + 1) ending ∷ rest) (pieces bs)

pub sum_more : (n : ℕ) (ns : List ℕ) → sum (n ∷ ns) ≡ n + sum ns
sum_more n ns = grind (arith, common_steps)

pub larger_both : (b : Bool) (n m : ℕ) → b ≡ nat_le n m → (n ≤ larger b n m) × (m ≤ larger b n m)
larger_both true n m e = let l : n ≤ m = grind (arith, nat_tests) in (l, omega arith)
larger_both false n m e = let l : m < n = grind (arith, nat_tests) in (omega arith, omega arith)

pub terms_on : (bounds : Bounds) (place : Place) (terms : List RawTerm) (n level count : ℕ) (ending : Ending) (rest : List Want) (bs : List ℕ) → AllByRecursion (Reread bounds) terms → RowMark ending
    → list_all (λ b. b) (map (nodes_fit bounds place) terms) ≡ true → Bound bounds (n + sum (map node_count terms) ≤ 4096) → Bound bounds (level + largest (map depth terms) ≤ 257) → Bound bounds (count + length terms ≤ 8) → begins_apart bs ≡ true
    → walk_in bounds n (w.Row (r.Args place) level count ending ∷ rest) (pieces (spaced (map arg_spelling terms) ++ bs))
    ≡ walk_in bounds (n + sum (map node_count terms)) (w.Row (r.Args place) level (count + length terms) ending ∷ rest) (pieces bs)
terms_on bounds place [] n level count ending rest bs all mark fits few deep room apart =
    ap (λ k. walk_in bounds k (w.Row (r.Args place) level count ending ∷ rest) (pieces bs)) (plus_none n) ∙ ap (λ k. walk_in bounds (n + 0) (w.Row (r.Args place) level k ending ∷ rest) (pieces bs)) (plus_none count)
  where
    plus_none : (n : ℕ) → n ≡ n + 0
    plus_none n = omega arith
terms_on bounds place (x ∷ terms) n level count ending rest bs all mark fits few deep room apart =
    let q = both (nodes_fit bounds place x) (list_all (λ b. b) (map (nodes_fit bounds place) terms)) fits in
    let s = sum_more (node_count x) (map node_count terms) in
    let m = largest (map depth terms) in
    let k = sum (map node_count terms) in
    let d = larger_both (nat_le (depth x) m) (depth x) m refl in
    let one = node_some x in let up = depth_some x in
    let few_one = bound_by bounds (n + sum (node_count x ∷ map node_count terms) ≤ 4096) (n + node_count x ≤ 4096) (λ h. omega arith) few in
    let deep_one = bound_by bounds (level + larger (nat_le (depth x) m) (depth x) m ≤ 257) (level + depth x ≤ 257) (λ h. omega arith) deep in
    let place_left = bound_by bounds (count + length (x ∷ terms) ≤ 8) (count < 8) (λ h. omega arith) room in
    ap (λ l. walk_in bounds n (w.Row (r.Args place) level count ending ∷ rest) (pieces l)) (spaced_is (arg_spelling x) (map arg_spelling terms) bs)
    ∙ space_on bounds n (r.Args place) level count ending rest (arg_spelling x ++ (spaced (map arg_spelling terms) ++ bs))
    (item_may bounds n (r.Args place) level count tt place_left (bound_by bounds (n + node_count x ≤ 4096) (n < 4096) (λ h. omega arith) few_one)
    (bound_by bounds (level + depth x ≤ 257) (level ≤ 256) (λ h. omega arith) deep_one))
    ∙ all.0 n (r.Args place) level count ending rest (spaced (map arg_spelling terms) ++ bs) tt mark q.0 few_one deep_one place_left (apart_spaced (map arg_spelling terms) bs apart)
    ∙ terms_on bounds place terms (n + node_count x) level (count + 1) ending rest bs all.1 mark q.1
    (bound_by bounds (n + sum (node_count x ∷ map node_count terms) ≤ 4096) ((n + node_count x) + k ≤ 4096) (λ h. omega arith) few)
    (bound_by bounds (level + larger (nat_le (depth x) m) (depth x) m ≤ 257) (level + m ≤ 257) (λ h. omega arith) deep)
    (bound_by bounds (count + length (x ∷ terms) ≤ 8) ((count + 1) + length terms ≤ 8) (λ h. omega arith) room) apart
    ∙ ap (λ k. walk_in bounds k (w.Row (r.Args place) level ((count + 1) + length terms) ending ∷ rest) (pieces bs)) (added n (node_count x) (sum (map node_count terms)) (sum (node_count x ∷ map node_count terms)) s)
    ∙ ap (λ k. walk_in bounds (n + sum (node_count x ∷ map node_count terms)) (w.Row (r.Args place) level k ending ∷ rest) (pieces bs)) (counted count (length terms))
  where
    added : (n k m s : ℕ) → s ≡ k + m → (n + k) + m ≡ n + s
    added n k m s h = omega arith
