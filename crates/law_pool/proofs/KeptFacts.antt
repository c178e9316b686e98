-- What is kept of a sort is what the table says.
use Rattle.std.proofs.Common.{◌≡◌, ℕ, zero, suc, ◌^◌, ◌<◌, ◌≤◌, List, [], ◌∷◌, map, length, Option, None, slice_get, slice_index_or, Some, option_map, option_and_then, sym, refl, ap, ◌∙◌, subst, arith}
use Rattle.law_sig.specs.Lists.{Each, product}
use Rattle.law_sig.specs.Tests.{pool_value}
use Rattle.law_sig.specs.declared.tree.SortId.{SortId}
use Rattle.law_sig.specs.declared.tree.Tree.{Tree}
use Rattle.law_ids.specs.declared.ids.ValueId.{ValueId}
use Rattle.law_ids.specs.Values.{IsOf, AreOf, tree_of, trees_of}
use Rattle.law_ids.specs.Table.{Ids, PoolTable, HasShape, AreHeld, pools_of, id_at, radices_by}
use Rattle.law_pool.specs.Kept.{widths_kept, table_kept, AreKept, IsPlaces}
use Rattle.law_pool.proofs.Ways.{IsFew, few_ways}
use Rattle.law_pool.specs.declared.pools.SortPlaces.{SortPlaces}

pub map_place : {A : Type 0} (f : A → ℕ) (xs : List A) (at d : ℕ) (x : A) → at < length xs → slice_index_or (map f xs) at d ≡ f (slice_index_or xs at x)
map_place f [] at d x h = absurd (omega arith)
map_place f (y ∷ xs) zero d x h = refl
map_place f (y ∷ xs) (suc n) d x h = map_place f xs n d x (omega arith)

place_there : {A : Type 0} (xs : List A) (at : ℕ) (x : A) → at < length xs → slice_get xs at ≡ Some (slice_index_or xs at x)
place_there [] at x h = absurd (omega arith)
place_there (y ∷ xs) zero x h = refl
place_there (y ∷ xs) (suc n) x h = place_there xs n x (omega arith)

-- a sort with variables is one of the table's
pub has_place : (vars : List ℕ) (sort index : ℕ) → index < slice_index_or vars sort 0 → sort < length vars
has_place [] sort index h = absurd (omega arith)
has_place (n ∷ vars) zero index h = omega arith
has_place (n ∷ vars) (suc s) index h = let k : s < length vars = has_place vars s index h in omega arith

length_map : {A B : Type 0} (f : A → B) (xs : List A) → length (map f xs) ≡ length xs
length_map f [] = refl
length_map f (x ∷ xs) = ap suc (length_map f xs)

pub within_kept : (places : List SortPlaces) (ids : Ids) (table : PoolTable) (sort : ℕ) → table_kept places ids ≡ table → sort < length table.vars → sort < length places
within_kept places ids table sort is h =
    subst (λ n. sort < n) (ap (λ (t : PoolTable). length t.vars) (sym is) ∙ length_map (λ (p : SortPlaces). p.vars) places) h

pub places_kept : (places : List SortPlaces) (assignments : ℕ) (ids : Ids) (table : PoolTable) (sort : ℕ) (p : SortPlaces)
    → AreKept places assignments ids → table_kept places ids ≡ table → sort < length places → IsPlaces table sort (slice_index_or places sort p)
places_kept places assignments ids table sort p kept is within = subst (λ t. IsPlaces t sort (slice_index_or places sort p)) is (record {
  all_wide = kept.wide;
  few = subst (λ n. n ≤ 4096) kept.count kept.few;
  declared = subst (λ n. sort < n) (sym (length_map (λ (p : SortPlaces). p.width) places)) within;
  vars = sym (map_place (λ (p : SortPlaces). p.vars) places sort 0 p within);
  width = sym (map_place (λ (p : SortPlaces). p.width) places sort 1 p within);
  wide = let h : 1 ≤ slice_index_or (widths_kept places) sort 1 = by (widths_kept places) sort kept.wide in subst (λ n. 1 ≤ n) (map_place (λ (p : SortPlaces). p.width) places sort 1 p within) h;
  step = kept.steps sort (slice_index_or places sort p) (place_there places sort p within);
})
  where
    by : (ws : List ℕ) (at : ℕ) → Each (λ w. 1 ≤ w) ws → 1 ≤ slice_index_or ws at 1
    by [] at h = omega arith
    by (w ∷ ws) zero h = h.0
    by (w ∷ ws) (suc n) h = by ws n h.1

-- the ways to give places to the variables before one are few
pub few_at : (table : PoolTable) (sort index power : ℕ) (p : SortPlaces) → IsPlaces table sort p → index ≤ slice_index_or table.vars sort 0 → power ≡ p.width ^ index
    → IsFew p.step power 4096
few_at table sort index power p is within e =
    let few = few_ways table.vars table.width sort index p.step power is.all_wide within is.step (e ∙ ap (λ w. w ^ index) is.width) in
    record { alone = omega (arith, few.alone, is.few); before = omega (arith, few.before, is.few); some = few.some }

-- the number of ways
pub count_kept : (places : List SortPlaces) (assignments : ℕ) (ids : Ids) (table : PoolTable) → AreKept places assignments ids → table_kept places ids ≡ table
    → assignments ≡ product (radices_by table.vars table.width)
count_kept places assignments ids table kept is = kept.count ∙ ap (λ (t : PoolTable). product (radices_by t.vars t.width)) is

-- A place of a pool

shape_sort : (width : List ℕ) (pool : List (List ValueId)) (sort : ℕ) → map length pool ≡ width → sort < length width → sort < length pool
shape_sort width pool sort e h = subst (λ n. sort < n) (sym (ap length e) ∙ length_map length pool) h

pub shape_pool : (width : List ℕ) (ids : Ids) (pool : ℕ) (d : List (List ValueId)) → HasShape width ids → pool < length ids → map length (slice_index_or ids pool d) ≡ width
shape_pool width [] pool d shape h = absurd (omega arith)
shape_pool width (p ∷ ids) zero d shape h = shape.0
shape_pool width (p ∷ ids) (suc n) d shape h = shape_pool width ids n d shape.1 (omega arith)

pub sort_within : (width : List ℕ) (ids : Ids) (pool sort : ℕ) (d : List (List ValueId)) → HasShape width ids → pool < length ids → sort < length width
    → sort < length (slice_index_or ids pool d)
sort_within width ids pool sort d shape h k = shape_sort width (slice_index_or ids pool d) sort (shape_pool width ids pool d shape h) k

pub place_within : (width : List ℕ) (ids : Ids) (pool sort place : ℕ) (d : List (List ValueId)) (e : List ValueId) → HasShape width ids → pool < length ids → sort < length width
    → place < slice_index_or width sort 1 → place < length (slice_index_or (slice_index_or ids pool d) sort e)
place_within width ids pool sort place d e shape h k l =
    subst (λ n. place < n) (ap (λ ws. slice_index_or ws sort 1) (sym (shape_pool width ids pool d shape h)) ∙ place_length (slice_index_or ids pool d) sort (sort_within width ids pool sort d shape h k)) l
  where
    place_length : (ls : List (List ValueId)) (at : ℕ) → at < length ls → slice_index_or (map length ls) at 1 ≡ length (slice_index_or ls at e)
    place_length [] at h = absurd (omega arith)
    place_length (x ∷ ls) zero h = refl
    place_length (x ∷ ls) (suc n) h = place_length ls n (omega arith)

pub shape_kept : (places : List SortPlaces) (assignments : ℕ) (ids : Ids) (table : PoolTable) → AreKept places assignments ids → table_kept places ids ≡ table
    → HasShape table.width table.ids
shape_kept places assignments ids table kept is = subst (λ (t : PoolTable). HasShape t.width t.ids) is kept.shape

pub id_there : (ids : Ids) (pool : ℕ) (sort : SortId) (place : ℕ) (d : List (List ValueId)) (e : List ValueId) (v : ValueId)
    → pool < length ids → sort.0 < length (slice_index_or ids pool d) → place < length (slice_index_or (slice_index_or ids pool d) sort.0 e)
    → id_at ids pool sort place ≡ Some (slice_index_or (slice_index_or (slice_index_or ids pool d) sort.0 e) place v)
id_there ids pool sort place d e v h k l =
    ap (λ o. option_and_then (λ values. slice_get values place) (option_and_then (λ sorts. slice_get sorts sort.0) o)) (place_there ids pool d h)
    ∙ ap (λ o. option_and_then (λ values. slice_get values place) o) (place_there (slice_index_or ids pool d) sort.0 e k)
    ∙ place_there (slice_index_or (slice_index_or ids pool d) sort.0 e) place v l

-- the value that it names
get_mapped : {A B : Type 0} (f : A → B) (xs : List A) (at : ℕ) → slice_get (map f xs) at ≡ option_map f (slice_get xs at)
get_mapped f [] at = refl
get_mapped f (x ∷ xs) zero = refl
get_mapped f (x ∷ xs) (suc n) = get_mapped f xs n

then_mapped : {A B C D : Type 0} (f : A → B) (g : C → D) (k : A → Option C) (l : B → Option D) → ((a : A) → l (f a) ≡ option_map g (k a))
    → (o : Option A) → option_and_then l (option_map f o) ≡ option_map g (option_and_then k o)
then_mapped f g k l same None = refl
then_mapped f g k l same (Some a) = same a

pub named : (bank : List Tree) (ids : Ids) (pool : ℕ) (sort : SortId) (place : ℕ) → pool_value (pools_of bank ids) pool sort place ≡ option_map (tree_of bank) (id_at ids pool sort place)
named bank ids pool sort place =
    ap (λ o. option_and_then (λ values. slice_get values place) (option_and_then (λ sorts. slice_get sorts sort.0) o)) (get_mapped (map (trees_of bank)) ids pool)
    ∙ ap (λ o. option_and_then (λ values. slice_get values place) o)
    (then_mapped (map (trees_of bank)) (trees_of bank) (λ sorts. slice_get sorts sort.0) (λ sorts. slice_get sorts sort.0) (λ sorts. get_mapped (trees_of bank) sorts sort.0) (slice_get ids pool))
    ∙ then_mapped (trees_of bank) (tree_of bank) (λ values. slice_get values place) (λ values. slice_get values place) (λ values. get_mapped (tree_of bank) values place)
    (option_and_then (λ sorts. slice_get sorts sort.0) (slice_get ids pool))

pub value_named : (bank : List Tree) (ids : Ids) (pool : ℕ) (sort : SortId) (place : ℕ) (v : ValueId) → id_at ids pool sort place ≡ Some v
    → pool_value (pools_of bank ids) pool sort place ≡ Some (tree_of bank v)
value_named bank ids pool sort place v e = named bank ids pool sort place ∙ ap (option_map (tree_of bank)) e

-- what all have, the one at a place has
each_got : {A : Type 0} (P : A → Type 0) (xs : List A) (at : ℕ) (x : A) → Each P xs → slice_get xs at ≡ Some x → P x
each_got P [] at x have e = cc
each_got P (y ∷ xs) zero x have e = subst P (let is : y ≡ x = cc in is) have.0
each_got P (y ∷ xs) (suc n) x have e = each_got P xs n x have.1 e

then_got : {A B : Type 0} (o : Option A) (k : A → Option B) (b : B) → option_and_then k o ≡ Some b → (a : A) × (o ≡ Some a) × (k a ≡ Some b)
then_got None k b e = cc
then_got (Some a) k b e = (a, refl, e)

pub held_there : (bank : List Tree) (ids : Ids) (pool : ℕ) (sort : SortId) (place : ℕ) (v : ValueId) → AreHeld bank ids → id_at ids pool sort place ≡ Some v → IsOf bank v
held_there bank ids pool sort place v held e =
    let values = then_got (option_and_then (λ sorts. slice_get sorts sort.0) (slice_get ids pool)) (λ values. slice_get values place) v e in
    let sorts = then_got (slice_get ids pool) (λ sorts. slice_get sorts sort.0) values.0 values.1 in
    each_got (IsOf bank) values.0 place v (each_got (AreOf bank) sorts.0 sort.0 values.0 (each_got (Each (AreOf bank)) ids pool sorts.0 held sorts.1) sorts.2) values.2
