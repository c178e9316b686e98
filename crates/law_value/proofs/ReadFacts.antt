-- What is known while the fields of a tree are read.
use Rattle.std.proofs.Common.{Option, slice_get, None, Some, ◌≡◌, ℕ, zero, suc, ◌+◌, ◌<◌, ◌^◌, List, [], ◌∷◌, ◌++◌, length, map, take, Bool, true, false, ◌&&◌, nat_lt, slice_index_or, refl, sym, ap, subst, ◌∙◌, arith}
use Rattle.std.proofs.lemmas.Option.{slice_get_read}
use Rattle.std.proofs.lemmas.Bool.{ltb-true, lt-ltb}
use Rattle.std.specs.List.{list_all}
use Rattle.law_sig.specs.Lists.{Each}
use Rattle.law_sig.specs.declared.tree.SymId.{SymId}
use Rattle.law_sig.specs.declared.tree.Tree.{Tree}
use Rattle.law_sig.specs.declared.tree.Tree.TheVariants.{App}
use Rattle.law_ids.specs.declared.ids.ValueId.{ValueId}
use Rattle.law_value.specs.declared.bank.Cell.{Cell}
use Rattle.law_value.specs.Cells.{IsCell, AreCells}
use Rattle.law_value.proofs.CellFacts.{cell_tree}
use Rattle.law_ids.specs.Values.{IsOf, AreOf, tree_of, trees_of, IsShared, Grows, is_plain}
use Rattle.law_ids.proofs.BankFacts.{trees_stay, ids_stay, held_more, trees_more, take_next, plain-App, length_map}
use Rattle.law_ids.proofs.Reading.{grows_on}

-- the ids that were read so far, and their trees, in a bank that has grown
pub record IsRead (old bank : List Tree) (ids : List ValueId) (done : List Tree) : Type 0 where
  pub held : AreOf bank ids
  pub trees : trees_of bank ids ≡ done
  pub grows : Grows old bank
  pub shared : IsShared bank

is_less : (n m : ℕ) → nat_lt n m ≡ true → n < m
is_less n m e = ltb-true n m e

both_true : (a b : Bool) → (a && b) ≡ true → (a ≡ true) × (b ≡ true)
both_true true b e = (refl, e)
both_true false b e = cc

-- a plain application has few arguments, and each is plain
pub plain_few : (t : Tree) (f : SymId) (args : List Tree) → t ≡ App f args → is_plain t ≡ true → length args < 2 ^ 32
plain_few t f args e plain =
    let both = both_true (nat_lt (length (map is_plain args)) (2 ^ 32)) (list_all (λ b. b) (map is_plain args)) (sym (plain-App f args) ∙ ap is_plain (sym e) ∙ plain) in
    subst (λ n. n < 2 ^ 32) (length_map is_plain args) (is_less (length (map is_plain args)) (2 ^ 32) both.0)

all_at : (args : List Tree) (at : ℕ) (d : Tree) → list_all (λ b. b) (map is_plain args) ≡ true → at < length args → is_plain (slice_index_or args at d) ≡ true
all_at [] at d all within = absurd (omega arith)
all_at (x ∷ xs) zero d all within = (both_true (is_plain x) (list_all (λ b. b) (map is_plain xs)) all).0
all_at (x ∷ xs) (suc n) d all within = all_at xs n d (both_true (is_plain x) (list_all (λ b. b) (map is_plain xs)) all).1 (omega arith)

pub plain_at : (t : Tree) (f : SymId) (args : List Tree) (at : ℕ) (x : Tree) → t ≡ App f args → is_plain t ≡ true → at < length args
    → x ≡ slice_index_or args at x → is_plain x ≡ true
plain_at t f args at x e plain within is =
    let both = both_true (nat_lt (length (map is_plain args)) (2 ^ 32)) (list_all (λ b. b) (map is_plain args)) (sym (plain-App f args) ∙ ap is_plain (sym e) ∙ plain) in
    ap is_plain is ∙ all_at args at x both.1 within

-- the next one is read
pub read_next : (old bank new : List Tree) (ids more : List ValueId) (args : List Tree) (at : ℕ) (v : ValueId) (x : Tree) → IsRead old bank ids (take at args)
    → at < length args → x ≡ slice_index_or args at x → Grows bank new → IsOf new v → tree_of new v ≡ x → IsShared new → more ≡ ids ++ v ∷ []
    → IsRead old new more (take (at + 1) args)
read_next old bank new ids more args at v x read within is grows held tree shared e = record {
  held = subst (AreOf new) (sym e) (held_more new ids v (subst (λ l. AreOf l ids) (sym grows.1) (ids_stay bank grows.0 ids read.held)) held);
  trees = ap (trees_of new) e ∙ trees_more new ids v
      ∙ ap (λ l. l ++ tree_of new v ∷ []) (ap (λ l. trees_of l ids) grows.1 ∙ trees_stay bank grows.0 ids read.held ∙ read.trees)
      ∙ ap (λ y. take at args ++ y ∷ []) tree ∙ sym (take_next args at x (slice_get_read args (length args) at x refl within is));
  grows = grows_on old bank new read.grows grows;
  shared = shared;
}

-- The values of a bank are plain

missing : {A : Type 0} (xs : List A) (at : ℕ) → at < length xs → slice_get xs at ≡ None → ⊥
missing [] at within e = omega arith
missing (x ∷ xs) zero within e = cc
missing (x ∷ xs) (suc n) within e = missing xs n (omega arith) e

all_plain : (bank : List Tree) (ids : List ValueId) (at : ℕ) → ((v : ValueId) → v.0 < at → is_plain (tree_of bank v) ≡ true) → Each (λ (v : ValueId). v.0 < at) ids
    → list_all (λ b. b) (map is_plain (trees_of bank ids)) ≡ true
all_plain bank [] at have earlier = refl
all_plain bank (v ∷ ids) at have earlier = ap (λ b. b && list_all (λ b. b) (map is_plain (trees_of bank ids))) (have v earlier.0) ∙ all_plain bank ids at have earlier.1

plain_cell : (bank : List Tree) (v : ValueId) (cell : Cell) → IsCell bank v.0 cell → ((w : ValueId) → w.0 < v.0 → is_plain (tree_of bank w) ≡ true) → is_plain (tree_of bank v) ≡ true
plain_cell bank v cell is have =
    let ts = trees_of bank cell.fields.items in
    let count : length (map is_plain ts) ≡ length cell.fields.items = length_map is_plain ts ∙ length_map (tree_of bank) cell.fields.items in
    let few : nat_lt (length (map is_plain ts)) (2 ^ 32) ≡ true = lt-ltb (length (map is_plain ts)) (2 ^ 32) (subst (λ n. n < 2 ^ 32) (sym count) is.few) in
    ap is_plain (cell_tree bank v cell is) ∙ plain-App cell.sym ts
    ∙ ap (λ b. b && list_all (λ b. b) (map is_plain ts)) few ∙ all_plain bank cell.fields.items v.0 have is.earlier

plain_by : (bank : List Tree) (cells : List Cell) (v : ValueId) → AreCells cells bank → IsOf bank v → ((w : ValueId) → w.0 < v.0 → is_plain (tree_of bank w) ≡ true)
    → (o : Option Cell) → slice_get cells v.0 ≡ o → is_plain (tree_of bank v) ≡ true
plain_by bank cells v are held have None e = absurd (missing cells v.0 (omega (arith, are.one_each)) e)
plain_by bank cells v are held have (Some cell) e = plain_cell bank v cell (are.each v.0 cell e) have

plain_below : (bank : List Tree) (cells : List Cell) → AreCells cells bank → (bound : ℕ) (v : ValueId) → v.0 < bound → IsOf bank v → is_plain (tree_of bank v) ≡ true
plain_below bank cells are zero v less held = absurd (omega arith)
plain_below bank cells are (suc bound) v less held =
    plain_by bank cells v are held (λ w lower. plain_below bank cells are bound w (omega arith) (omega arith)) (slice_get cells v.0) refl

pub plain_of : (bank : List Tree) (cells : List Cell) (v : ValueId) → AreCells cells bank → IsOf bank v → is_plain (tree_of bank v) ≡ true
plain_of bank cells v are held = plain_below bank cells are (suc v.0) v (omega arith) held
