-- What a bank says of an id stays when the bank grows, and what a tree's layer is.
use Rattle.std.proofs.Common.{◌≡◌, ℕ, zero, suc, ◌+◌, ◌<◌, ◌⊎◌, inl, inr, List, [], ◌∷◌, ◌++◌, length, map, take, ◌≤◌, Option, Some, slice_get, refl, sym, ap, ◌∙◌, arith, length-append, ◌^◌, Bool, ◌&&◌, nat_lt}
use Rattle.std.proofs.Math.ListN.{get_or-append}
use Rattle.std.proofs.lemmas.Option.{get_or_from_slice_get}
use Rattle.law_sig.specs.Lists.{Each, total}
use Rattle.law_sig.specs.Trees.{node_count, nodes_step}
use Rattle.law_sig.specs.declared.tree.SymId.{SymId}
use Rattle.law_sig.specs.declared.tree.Tree.{Tree}
use Rattle.law_sig.specs.declared.tree.Tree.TheOpen as o
use Rattle.law_sig.specs.declared.tree.Tree.TheFolds.{fold-roll-Tree}
use Rattle.law_sig.specs.declared.tree.Tree.TheVariants.{App, outs-App, rolls-App}
use Rattle.law_sig.specs.declared.tree.Tree.TheViews.{out-Tree, roll-Tree, roll-out-Tree}
use Rattle.law_ids.specs.declared.ids.ValueId.{ValueId}
use Rattle.law_ids.specs.Values.{IsOf, AreOf, no_tree, tree_of, trees_of, head_in, fields_in, head_of, fields_of, IsShared, plain_step, is_plain}
use Rattle.std.specs.List.{list_all}

-- an id keeps its tree
pub tree_stays : (bank more : List Tree) (v : ValueId) → IsOf bank v → tree_of (bank ++ more) v ≡ tree_of bank v
tree_stays bank more v held = get_or-append bank more no_tree v.0 held

pub id_stays : (bank more : List Tree) (v : ValueId) → IsOf bank v → IsOf (bank ++ more) v
id_stays bank more v held = omega (arith, length-append bank more)

pub trees_stay : (bank more : List Tree) (ids : List ValueId) → AreOf bank ids → trees_of (bank ++ more) ids ≡ trees_of bank ids
trees_stay bank more [] held = refl
trees_stay bank more (v ∷ ids) held = cc (tree_stays bank more v held.0, trees_stay bank more ids held.1)

pub ids_stay : (bank more : List Tree) (ids : List ValueId) → AreOf bank ids → AreOf (bank ++ more) ids
ids_stay bank more [] held = tt
ids_stay bank more (v ∷ ids) held = (id_stays bank more v held.0, ids_stay bank more ids held.1)

-- ids that stand before an id of the bank are of the bank
pub earlier_held : (bank : List Tree) (at : ℕ) (ids : List ValueId) → at < length bank → Each (λ (v : ValueId). v.0 < at) ids → AreOf bank ids
earlier_held bank at [] within earlier = tt
earlier_held bank at (v ∷ ids) within earlier = ((omega arith), earlier_held bank at ids within earlier.1)

-- where no tree stands twice, lists of ids are equal where their trees are
pub ids_shared : (bank : List Tree) (xs ys : List ValueId) → IsShared bank → AreOf bank xs → AreOf bank ys → trees_of bank xs ≡ trees_of bank ys → xs ≡ ys
ids_shared bank [] [] shared held kept e = refl
ids_shared bank [] (y ∷ ys) shared held kept e = cc
ids_shared bank (x ∷ xs) [] shared held kept e = cc
ids_shared bank (x ∷ xs) (y ∷ ys) shared held kept e =
    let first : tree_of bank x ≡ tree_of bank y = cc in
    let others : trees_of bank xs ≡ trees_of bank ys = cc in
    cc (shared x y held.0 kept.0 first, ids_shared bank xs ys shared held.1 kept.1 others)

-- what stands at a place of a list stays there when the list grows
pub get_stays : {A : Type 0} (xs ys : List A) (at : ℕ) (x : A) → slice_get xs at ≡ Some x → slice_get (xs ++ ys) at ≡ Some x
get_stays [] ys at x e = cc
get_stays (y ∷ xs) ys zero x e = e
get_stays (y ∷ xs) ys (suc n) x e = get_stays xs ys n x e

pub get_last : {A : Type 0} (xs : List A) (x : A) → slice_get (xs ++ x ∷ []) (length xs) ≡ Some x
get_last [] x = refl
get_last (y ∷ xs) x = get_last xs x

-- a place of a list with one more item is one of the list, or the last
pub get_more : {A : Type 0} (xs : List A) (x : A) (at : ℕ) (y : A) → slice_get (xs ++ x ∷ []) at ≡ Some y → (slice_get xs at ≡ Some y) ⊎ ((at ≡ length xs) × (x ≡ y))
get_more [] x zero y e = inr (refl, cc)
get_more [] x (suc n) y e = cc
get_more (z ∷ xs) x zero y e = inl e
get_more (z ∷ xs) x (suc n) y e = next (get_more xs x n y e)
  where
    next : (slice_get xs n ≡ Some y) ⊎ ((n ≡ length xs) × (x ≡ y)) → (slice_get xs n ≡ Some y) ⊎ ((suc n ≡ suc (length xs)) × (x ≡ y))
    next (inl k) = inl k
    next (inr k) = inr (ap suc k.0, k.1)

-- the tree at a place of the bank
pub tree_at : (bank : List Tree) (v : ValueId) (t : Tree) → slice_get bank v.0 ≡ Some t → tree_of bank v ≡ t
tree_at bank v t e = get_or_from_slice_get bank v.0 t no_tree e

pub head_of-App : (f : SymId) (args : List Tree) → head_of (App f args) ≡ Some f
head_of-App f args = ap head_in (outs-App f args)

pub fields_of-App : (f : SymId) (args : List Tree) → fields_of (App f args) ≡ args
fields_of-App f args = ap fields_in (outs-App f args)

-- two applications are equal only with one symbol and equal arguments
pub App-same : (f g : SymId) (xs ys : List Tree) → App f xs ≡ App g ys → (f ≡ g) × (xs ≡ ys)
App-same f g xs ys e =
    let heads : ◌≡◌ {A = Option SymId} (Some f) (Some g) = sym (head_of-App f xs) ∙ ap head_of e ∙ head_of-App g ys in
    (cc, sym (fields_of-App f xs) ∙ ap fields_of e ∙ fields_of-App g ys)

pub node_count-App : (f : SymId) (args : List Tree) → node_count (App f args) ≡ 1 + total (map node_count args)
node_count-App f args = ap node_count (sym (rolls-App f args)) ∙ fold-roll-Tree ℕ nodes_step (o.App f args)

-- an application is what its symbol and its fields make
pub App-of : (t : Tree) (f : SymId) → head_of t ≡ Some f → App f (fields_of t) ≡ t
App-of t f e = by (out-Tree t) refl e
  where
    by : (x : o.Tree-F Tree) → out-Tree t ≡ x → head_in x ≡ Some f → App f (fields_of t) ≡ t
    by (o.Var s i) k h = cc
    by (o.App g args) k h =
        let same : g ≡ f = cc in
        ap (λ l. App f (fields_in l)) k ∙ ap (λ s. App s args) (sym same) ∙ sym (rolls-App g args) ∙ ap roll-Tree (sym k) ∙ roll-out-Tree t

-- one item more of a list's first items
pub take_next : {A : Type 0} (xs : List A) (at : ℕ) (x : A) → slice_get xs at ≡ Some x → take (at + 1) xs ≡ take at xs ++ x ∷ []
take_next [] at x e = cc
take_next (y ∷ xs) zero x e = ap (λ z. z ∷ []) (let is : y ≡ x = cc in is)
take_next (y ∷ xs) (suc n) x e =
    let next : suc n + 1 ≡ suc (n + 1) = omega arith in
    ap (λ k. take k (y ∷ xs)) next ∙ ap (λ z. y ∷ z) (take_next xs n x e)

pub take_all : {A : Type 0} (xs : List A) (at : ℕ) → length xs ≤ at → take at xs ≡ xs
take_all [] zero h = refl
take_all [] (suc n) h = refl
take_all (x ∷ xs) zero h = absurd (omega arith)
take_all (x ∷ xs) (suc n) h = ap (λ z. x ∷ z) (take_all xs n (omega arith))

-- one id more
pub held_more : (bank : List Tree) (ids : List ValueId) (v : ValueId) → AreOf bank ids → IsOf bank v → AreOf bank (ids ++ v ∷ [])
held_more bank [] v held is = (is, tt)
held_more bank (x ∷ ids) v held is = (held.0, held_more bank ids v held.1 is)

pub trees_more : (bank : List Tree) (ids : List ValueId) (v : ValueId) → trees_of bank (ids ++ v ∷ []) ≡ trees_of bank ids ++ tree_of bank v ∷ []
trees_more bank [] v = refl
trees_more bank (x ∷ ids) v = ap (λ l. tree_of bank x ∷ l) (trees_more bank ids v)

pub plain-App : (f : SymId) (args : List Tree) → is_plain (App f args) ≡ (nat_lt (length (map is_plain args)) (2 ^ 32) && list_all (λ b. b) (map is_plain args))
plain-App f args = ap is_plain (sym (rolls-App f args)) ∙ fold-roll-Tree Bool plain_step (o.App f args)

pub length_map : {A B : Type 0} (f : A → B) (xs : List A) → length (map f xs) ≡ length xs
length_map f [] = refl
length_map f (x ∷ xs) = ap suc (length_map f xs)
