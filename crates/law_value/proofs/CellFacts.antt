-- What adding a cell to a table of cells does to the trees.
use Rattle.std.proofs.Common.{◌≡◌, ℕ, zero, suc, ◌+◌, ◌-◌, ◌<◌, ◌^◌, ◌⊎◌, inl, inr, min, List, [], ◌∷◌, ◌++◌, length, Bool, true, false, ◌&&◌, ◌||◌, if◌then◌else◌, Some, slice_get, position, get_or, true≢false, refl, sym, ap, subst, subst₂, ◌∙◌, arith, length-append, append-nil, slice_index_or, option_map}
use Rattle.std.proofs.lemmas.List.{length-map}
use Rattle.std.proofs.lemmas.List.Quantifiers.{position-Some}
use Rattle.std.proofs.lemmas.Bool.{eqb-true, eq-eqb}
use Rattle.indexmap.specs.IndexSet.{insert_key}
use Rattle.std.proofs.lemmas.Option.{slice_get-map, slice_get_read, slice_get-get_or, slice_get_within}
use Rattle.std.specs.List.{list_any}
use Rattle.std.specs.Cmp.Lexicographic.{pointwise}
use Rattle.std.specs.Prelude.{◌==◌}
use Rattle.law_sig.specs.Lists.{Each}
use Rattle.law_sig.specs.Trees.{node_count}
use Rattle.law_sig.specs.declared.tree.SymId.{SymId}
use Rattle.law_sig.specs.declared.tree.Tree.{Tree}
use Rattle.law_sig.specs.declared.tree.Tree.TheVariants.{App}
use Rattle.law_ids.specs.declared.ids.ValueId.{ValueId}
use Rattle.law_value.specs.declared.bank.Cell.{Cell}
use Rattle.law_ids.specs.Values.{IsOf, AreOf, no_tree, tree_of, trees_of, head_of, fields_of, IsShared, Grows, Adds}
use Rattle.law_value.specs.Cells.{tree_in, trees_after, trees, IsCell, AreCells, same_id, has_parts}
use Rattle.law_ids.proofs.BankFacts.{tree_stays, trees_stay, earlier_held, ids_shared, get_stays, get_last, get_more, tree_at, App-same, head_of-App, fields_of-App}

-- the trees of one cell more
pub trees_after-push : (bank : List Tree) (cells : List Cell) (cell : Cell) → trees_after bank (cells ++ cell ∷ []) ≡ trees_after bank cells ++ tree_in (trees_after bank cells) cell ∷ []
trees_after-push bank [] cell = refl
trees_after-push bank (c ∷ cells) cell = trees_after-push (bank ++ tree_in bank c ∷ []) cells cell

-- a cell keeps its meaning when the bank grows
pub cell_stays : (bank more : List Tree) (at : ℕ) (cell : Cell) → at < length bank → IsCell bank at cell → IsCell (bank ++ more) at cell
cell_stays bank more at cell within is =
    let same : tree_in (bank ++ more) cell ≡ tree_in bank cell = ap (App cell.sym) (trees_stay bank more cell.fields.items (earlier_held bank at cell.fields.items within is.earlier)) in
    record {
      tree = get_stays bank more at (tree_in bank cell) is.tree ∙ ap Some (sym same);
      earlier = is.earlier;
      few = is.few;
      nodes = is.nodes ∙ ap (λ t. min (node_count t) (2 ^ 64 - 1)) (sym same);
    }

-- the tree of an id, by its cell
pub cell_tree : (bank : List Tree) (v : ValueId) (cell : Cell) → IsCell bank v.0 cell → tree_of bank v ≡ tree_in bank cell
cell_tree bank v cell is = tree_at bank v (tree_in bank cell) is.tree

pub cell_head : (bank : List Tree) (v : ValueId) (cell : Cell) → IsCell bank v.0 cell → head_of (tree_of bank v) ≡ Some cell.sym
cell_head bank v cell is = ap head_of (cell_tree bank v cell is) ∙ head_of-App cell.sym (trees_of bank cell.fields.items)

pub cell_fields : (bank : List Tree) (v : ValueId) (cell : Cell) → IsCell bank v.0 cell → fields_of (tree_of bank v) ≡ trees_of bank cell.fields.items
cell_fields bank v cell is = ap fields_of (cell_tree bank v cell is) ∙ fields_of-App cell.sym (trees_of bank cell.fields.items)

pub cell_count : (bank : List Tree) (v : ValueId) (cell : Cell) → IsCell bank v.0 cell → length cell.fields.items ≡ length (fields_of (tree_of bank v))
cell_count bank v cell is = sym (length-map cell.fields.items (tree_of bank)) ∙ ap length (sym (cell_fields bank v cell is))

-- what holds of each item holds of the one at a place
pub each_at : {A : Type 0} (P : A → Type 0) (xs : List A) (at : ℕ) (x : A) → at < length xs → x ≡ slice_index_or xs at x → Each P xs → P x
each_at P [] at x within is have = absurd (omega arith)
each_at P (y ∷ xs) zero x within is have = subst P (sym is) have.0
each_at P (y ∷ xs) (suc n) x within is have = each_at P xs n x (omega arith) is have.1

-- the tree of the field at a place
pub cell_field : (bank : List Tree) (v : ValueId) (cell : Cell) (at : ℕ) (w : ValueId) → IsCell bank v.0 cell → at < length cell.fields.items
    → w ≡ slice_index_or cell.fields.items at w → slice_get (fields_of (tree_of bank v)) at ≡ Some (tree_of bank w)
cell_field bank v cell at w is within get = ap (λ l. slice_get l at) (cell_fields bank v cell is) ∙ slice_get-map (tree_of bank) cell.fields.items at
    ∙ ap (option_map (tree_of bank)) (slice_get_read cell.fields.items (length cell.fields.items) at w refl within get)

-- Two cells are the same where they have one symbol and the same fields

abbrev pub same_cell : Cell → Cell → Bool
same_cell a b = has_parts a.sym a.fields.items b

both_true : (a b : Bool) → (a && b) ≡ true → (a ≡ true) × (b ≡ true)
both_true true b e = (refl, e)
both_true false b e = cc

ids_same : (xs ys : List ValueId) → pointwise same_id xs ys ≡ true → xs ≡ ys
ids_same [] [] e = refl
ids_same [] (y ∷ ys) e = cc
ids_same (x ∷ xs) [] e = cc
ids_same (x ∷ xs) (y ∷ ys) e =
    let both = both_true (same_id x y) (pointwise same_id xs ys) e in
    let first : x ≡ y = ap (λ n. let v : ValueId = record { 0 = n } in v) (eqb-true x.0 y.0 both.0) in
    cc (first, ids_same xs ys both.1)

same_ids : (xs : List ValueId) → pointwise same_id xs xs ≡ true
same_ids [] = refl
same_ids (x ∷ xs) = ap (λ b. b && pointwise same_id xs xs) (eq-eqb x.0 x.0 refl) ∙ same_ids xs

-- a cell with these parts
pub parts_same : (f : SymId) (ids : List ValueId) (cell : Cell) → has_parts f ids cell ≡ true → (f ≡ cell.sym) × (ids ≡ cell.fields.items)
parts_same f ids cell e =
    let both = both_true (f.0 == cell.sym.0) (pointwise same_id ids cell.fields.items) e in
    (ap (λ n. let g : SymId = record { 0 = n } in g) (eqb-true f.0 cell.sym.0 both.0), ids_same ids cell.fields.items both.1)

pub same_cells : (a b : Cell) → a.sym ≡ b.sym → a.fields.items ≡ b.fields.items → same_cell a b ≡ true
same_cells a b s f =
    let syms : (a.sym.0 == b.sym.0) ≡ true = eq-eqb a.sym.0 b.sym.0 (ap (λ (g : SymId). g.0) s) in
    let ids : pointwise same_id a.fields.items b.fields.items ≡ true = ap (pointwise same_id a.fields.items) (sym f) ∙ same_ids a.fields.items in
    ap (λ x. x && pointwise same_id a.fields.items b.fields.items) syms ∙ ids

-- where a cell with these parts stands, its tree does
pub known_is : (bank : List Tree) (cells : List Cell) (f : SymId) (ids : List ValueId) (at : ℕ) → AreCells cells bank → position (has_parts f ids) cells ≡ Some at
    → (at < length bank) × (slice_index_or bank at no_tree ≡ App f (trees_of bank ids))
known_is bank [] f ids at are e = cc
known_is bank (first ∷ others) f ids at are e =
    let cells = first ∷ others in
    let found = position-Some (has_parts f ids) cells at first e in
    let cell = get_or cells at first in
    let v : ValueId = record { 0 = at } in
    let is = are.each at cell (slice_get-get_or cells at first found.0) in
    let parts = parts_same f ids cell found.1 in (
      omega (arith, are.one_each, found.0),
      cell_tree bank v cell is ∙ ap (λ g. App g (trees_of bank cell.fields.items)) (sym parts.0) ∙ ap (λ l. App f (trees_of bank l)) (sym parts.1),
    )

-- A cell is put into the table

either_false : (a b : Bool) → (a || b) ≡ false → (a ≡ false) × (b ≡ false)
either_false true b e = cc
either_false false b e = (refl, e)

-- a test that no item passes
none_passes : {A : Type 0} (test : A → Bool) (xs : List A) (at : ℕ) (x : A) → list_any test xs ≡ false → slice_get xs at ≡ Some x → test x ≡ false
none_passes test [] at x none e = cc
none_passes test (y ∷ xs) zero x none e =
    let first = (either_false (test y) (list_any test xs) none).0 in
    let is : y ≡ x = cc in
    ap test (sym is) ∙ first
none_passes test (y ∷ xs) (suc n) x none e = none_passes test xs n x (either_false (test y) (list_any test xs) none).1 e

-- the cell may be put into a table of this bank
pub record MayAdd (bank : List Tree) (cell : Cell) : Type 0 where
  pub held : AreOf bank cell.fields.items
  pub few : length cell.fields.items < 2 ^ 32
  pub nodes : cell.nodes ≡ min (node_count (tree_in bank cell)) (2 ^ 64 - 1)

-- a cell that equals none of the table has a tree that the bank lacks
fresh : (bank : List Tree) (cells : List Cell) (cell : Cell) → AreCells cells bank → MayAdd bank cell → list_any (same_cell cell) cells ≡ false
    → (v : ValueId) → IsOf bank v → tree_of bank v ≡ tree_in bank cell → ⊥
fresh bank cells cell are may none v held e =
    let within : v.0 < length cells = omega (arith, are.one_each) in
    let k = get_or cells v.0 cell in
    let get = slice_get-get_or cells v.0 cell within in
    let is = are.each v.0 k get in
    let parts = App-same cell.sym k.sym (trees_of bank cell.fields.items) (trees_of bank k.fields.items) (sym e ∙ cell_tree bank v k is) in
    let ids = ids_shared bank cell.fields.items k.fields.items are.shared may.held (earlier_held bank v.0 k.fields.items held is.earlier) parts.1 in
    let same : same_cell cell k ≡ true = same_cells cell k parts.0 ids in
    let other : same_cell cell k ≡ false = none_passes (same_cell cell) cells v.0 k none get in
    true≢false (sym same ∙ other)

-- the trees of a bank with one more tree, which it lacked, are shared as those of the bank are
shared_more : (bank : List Tree) (t : Tree) → IsShared bank → ((v : ValueId) → IsOf bank v → tree_of bank v ≡ t → ⊥) → IsShared (bank ++ t ∷ [])
shared_more bank t shared lacked a b held kept e = by (placed_at a held) (placed_at b kept)
  where
    placed_at : (v : ValueId) → IsOf (bank ++ t ∷ []) v → IsOf bank v ⊎ (v.0 ≡ length bank)
    placed_at v h = let n : length (bank ++ t ∷ []) ≡ length bank + 1 = length-append bank (t ∷ []) in at_or_below v.0 (length bank) (omega (arith, n))
      where
        at_or_below : (n m : ℕ) → n < m + 1 → (n < m) ⊎ (n ≡ m)
        at_or_below n m h = grind arith

    is_last : (v : ValueId) → v.0 ≡ length bank → tree_of (bank ++ t ∷ []) v ≡ t
    is_last v k = tree_at (bank ++ t ∷ []) v t (ap (slice_get (bank ++ t ∷ [])) k ∙ get_last bank t)

    by : IsOf bank a ⊎ (a.0 ≡ length bank) → IsOf bank b ⊎ (b.0 ≡ length bank) → a ≡ b
    by (inl h) (inl k) = shared a b h k (sym (tree_stays bank (t ∷ []) a h) ∙ e ∙ tree_stays bank (t ∷ []) b k)
    by (inl h) (inr k) = absurd (lacked a h (sym (tree_stays bank (t ∷ []) a h) ∙ e ∙ is_last b k))
    by (inr h) (inl k) = absurd (lacked b k (sym (tree_stays bank (t ∷ []) b k) ∙ sym e ∙ is_last a h))
    by (inr h) (inr k) = ap (λ n. let v : ValueId = record { 0 = n } in v) (h ∙ sym k)

-- the table with a cell at its end
added : (bank : List Tree) (cells : List Cell) (cell : Cell) → AreCells cells bank → MayAdd bank cell → list_any (same_cell cell) cells ≡ false
    → AreCells (cells ++ cell ∷ []) (bank ++ tree_in bank cell ∷ [])
added bank cells cell are may none = record {
  one_each = length-append bank (tree_in bank cell ∷ []) ∙ ap (λ n. n + 1) are.one_each ∙ sym (length-append cells (cell ∷ []));
  each = λ at k get. by at k (get_more cells cell at k get);
  shared = shared_more bank (tree_in bank cell) are.shared (fresh bank cells cell are may none);
}
  where
    more : List Tree
    more = tree_in bank cell ∷ []

    last : IsCell (bank ++ more) (length bank) cell
    last =
        let same : tree_in (bank ++ more) cell ≡ tree_in bank cell = ap (App cell.sym) (trees_stay bank more cell.fields.items may.held) in
        record {
          tree = get_last bank (tree_in bank cell) ∙ ap Some (sym same);
          earlier = may.held;
          few = may.few;
          nodes = may.nodes ∙ ap (λ t. min (node_count t) (2 ^ 64 - 1)) (sym same);
        }

    by : (at : ℕ) (k : Cell) → (slice_get cells at ≡ Some k) ⊎ ((at ≡ length cells) × (cell ≡ k)) → IsCell (bank ++ more) at k
    by at k (inl get) = cell_stays bank more at k (let h : at < length cells = slice_get_within cells at k get in omega (arith, are.one_each)) (are.each at k get)
    by at k (inr is) = subst₂ (λ n c. IsCell (bank ++ more) n c) (are.one_each ∙ sym is.0) is.1 last

-- what a table and its bank are after a cell was put in, and at which place the cell stands
pub record IsPut (bank : List Tree) (cells : List Cell) (cell : Cell) (at : ℕ) : Type 0 where
  pub are : AreCells cells (trees cells)
  pub within : at < length (trees cells)
  pub tree : slice_index_or (trees cells) at no_tree ≡ tree_in bank cell
  pub adds : Adds bank (trees cells) (tree_in bank cell)
  pub grows : Grows bank (trees cells)

pub put : (bank : List Tree) (cells new : List Cell) (cell : Cell) (at : ℕ) → trees cells ≡ bank → AreCells cells (trees cells) → MayAdd bank cell
    → new ≡ insert_key same_cell cells cell → (k : Cell) × (slice_get new at ≡ Some k) × (same_cell cell k ≡ true) → IsPut bank new cell at
put bank cells new cell at view are may keys stored = by (list_any (same_cell cell) cells) refl keys
  where
    are_old : AreCells cells bank
    are_old = subst (AreCells cells) view are

    finds : (bank' : List Tree) → trees new ≡ bank' → AreCells new bank' → tree_in bank' cell ≡ tree_in bank cell
        → Adds bank bank' (tree_in bank cell) → Grows bank bank' → IsPut bank new cell at
    finds bank' e are' stays adds grows =
        let v : ValueId = record { 0 = at } in
        let is = are'.each at stored.0 stored.1 in
        let same = parts_same cell.sym cell.fields.items stored.0 stored.2 in
        let tree : tree_of bank' v ≡ tree_in bank cell = cell_tree bank' v stored.0 is ∙ ap (λ f. App f (trees_of bank' stored.0.fields.items)) (sym same.0)
        ∙ ap (λ ids. App cell.sym (trees_of bank' ids)) (sym same.1) ∙ stays in
        record {
          are = subst (AreCells new) (sym e) are';
          within = subst (λ (l : List Tree). at < length l) (sym e) (slice_get_within bank' at (tree_in bank' stored.0) is.tree);
          tree = ap (λ (l : List Tree). slice_index_or l at no_tree) e ∙ tree;
          adds = subst (λ (l : List Tree). Adds bank l (tree_in bank cell)) (sym e) adds;
          grows = subst (λ (l : List Tree). Grows bank l) (sym e) grows;
        }

    by : (b : Bool) → list_any (same_cell cell) cells ≡ b → new ≡ (if b then cells else cells ++ cell ∷ []) → IsPut bank new cell at
    by true found e = finds bank (ap trees e ∙ view) (subst (λ (l : List Cell). AreCells l bank) (sym e) are_old) refl (inl refl) ([], sym (append-nil bank))
    by false none e =
        let t = tree_in bank cell in
        finds (bank ++ t ∷ [])
        (ap trees e ∙ trees_after-push [] cells cell ∙ ap (λ (l : List Tree). l ++ tree_in l cell ∷ []) view)
        (subst (λ (l : List Cell). AreCells l (bank ++ t ∷ [])) (sym e) (added bank cells cell are_old may none))
        (ap (App cell.sym) (trees_stay bank (t ∷ []) cell.fields.items may.held))
        (inr refl) (t ∷ [], refl)

-- the tree at a place among the trees of ids
pub trees_item : (bank : List Tree) (ids : List ValueId) (at : ℕ) (d : ValueId) → at < length ids
    → tree_of bank (slice_index_or ids at d) ≡ slice_index_or (trees_of bank ids) at (tree_of bank (slice_index_or ids at d))
trees_item bank [] at d within = absurd (omega arith)
trees_item bank (x ∷ xs) zero d within = refl
trees_item bank (x ∷ xs) (suc n) d within = trees_item bank xs n d (omega arith)
