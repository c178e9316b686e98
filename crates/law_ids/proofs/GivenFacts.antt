-- The pools of a well-formed signature: their values are plain, and they have the shape of its widths.
use Rattle.std.proofs.Common.{◌≡◌, ℕ, suc, ◌+◌, ◌<◌, ◌≤◌, ◌^◌, Bool, true, false, ◌&&◌, nat_lt, lt-ltb, IsTrue, Some, List, [], ◌∷◌, map, length, slice_index_or, sym, refl, ap, ap₂, ◌∙◌, subst, arith, zero-add}
use Rattle.std.specs.List.{list_all}
use Rattle.law_sig.specs.Lists.{Each}
use Rattle.law_sig.specs.Signature.{symbol_at, args_of, width_at, sort_of}
use Rattle.law_sig.specs.WellFormed.{is_constructor, value_step, IsPoolFrom, IsPool, IsPoolRule, IsWellFormed}
use Rattle.law_sig.specs.declared.tree.SortId.{SortId}
use Rattle.law_sig.specs.declared.tree.Tree.{Tree}
use Rattle.law_sig.specs.declared.tree.Tree.TheFolds.{fold-Tree}
use Rattle.law_sig.specs.declared.parts.PoolRule.{PoolRule}
use Rattle.law_sig.specs.declared.parts.PoolRule.TheVariants as rule
use Rattle.law_sig.specs.declared.parts.SigParts.{SigParts}
use Rattle.law_laws.proofs.TreeFacts.{tree_induct, fold-Var, fold-App}
use Rattle.law_laws.proofs.ListFacts.{each_map}
use Rattle.law_laws.proofs.Sorts.{HaveSorts, sorted_app, both_true}
use Rattle.law_ids.specs.declared.ids.ValueId.{ValueId}
use Rattle.law_ids.specs.Values.{is_plain, tree_of, trees_of}
use Rattle.law_ids.proofs.BankFacts.{plain-App, length_map}
use Rattle.law_ids.specs.Table.{Ids, HasShape, pools_of, given_in}

-- a value is plain
pub have_count : (parts : SigParts) (ts : List Tree) (ws : List SortId) → HaveSorts parts ts ws → length ts ≡ length ws
have_count parts [] [] h = refl
have_count parts [] (w ∷ ws) h = absurd h
have_count parts (t ∷ ts) [] h = absurd h
have_count parts (t ∷ ts) (w ∷ ws) h = ap suc (have_count parts ts ws h.1)

abbrev IsPlainValue : SigParts → Tree → Type 0
IsPlainValue parts t = (sort : SortId) → fold-Tree Bool (value_step parts) t ≡ true → sort_of parts t ≡ Some sort → is_plain t ≡ true

all_plain : (parts : SigParts) (ts : List Tree) (ws : List SortId) → Each (IsPlainValue parts) ts → HaveSorts parts ts ws
    → list_all (λ m. m) (map (fold-Tree Bool (value_step parts)) ts) ≡ true → list_all (λ b. b) (map is_plain ts) ≡ true
all_plain parts [] [] have sorts made = refl
all_plain parts [] (w ∷ ws) have sorts made = absurd sorts
all_plain parts (t ∷ ts) [] have sorts made = absurd sorts
all_plain parts (t ∷ ts) (w ∷ ws) have sorts made =
    let both = both_true (fold-Tree Bool (value_step parts) t) (list_all (λ m. m) (map (fold-Tree Bool (value_step parts)) ts)) made in
    ap₂ ◌&&◌ (have.0 w both.0 sorts.0) (all_plain parts ts ws have.1 sorts.1 both.1)

value_plain : (parts : SigParts) → IsWellFormed parts → (t : Tree) → IsPlainValue parts t
value_plain parts well = tree_induct (IsPlainValue parts)
    (λ s i sort made sorted. let e : false ≡ true = sym (fold-Var Bool (value_step parts) s i) ∙ made in cc)
    (λ f args have sort made sorted.
    let a = sorted_app parts f args sort sorted in
    let both = both_true (is_constructor (symbol_at parts f)) (list_all (λ m. m) (map (fold-Tree Bool (value_step parts)) args)) (sym (fold-App Bool (value_step parts) f args) ∙ made) in
    let few : length args < 2 ^ 32 = omega (arith, have_count parts args (args_of a.symbol) a.sorts, (well.symbols f a.symbol a.declared).args_bound) in
    plain-App f args ∙ ap₂ ◌&&◌ (ap (λ n. nat_lt n (2 ^ 32)) (length_map is_plain args) ∙ lt-ltb (length args) (2 ^ 32) few) (all_plain parts args (args_of a.symbol) have a.sorts both.1))

pool_plain : (parts : SigParts) → IsWellFormed parts → (n : ℕ) (pool : List (List Tree)) → IsPoolFrom parts n pool → Each (Each (λ t. IsTrue (is_plain t))) pool
pool_plain parts well n [] h = tt
pool_plain parts well n (values ∷ pool) h = (
  each_map _ (λ t. IsTrue (is_plain t)) (λ t k. value_plain parts well t (record { 0 = n }) k.0.made k.0.sorted) values h.0.each,
  pool_plain parts well (suc n) pool h.1,
)

-- a pool has as many values of each sort as its width
shape_from : (parts : SigParts) (pool : List (List Tree)) (ws : List ℕ) (n : ℕ) → IsPoolFrom parts n pool → length pool ≡ length ws
    → ((i : ℕ) → slice_index_or ws i 1 ≡ width_at parts (record { 0 = n + i })) → map length pool ≡ ws
shape_from parts [] [] n h e same = refl
shape_from parts [] (w ∷ ws) n h e same = cc
shape_from parts (values ∷ pool) [] n h e same = cc
shape_from parts (values ∷ pool) (w ∷ ws) n h e same =
    ap₂ ◌∷◌ (h.0.count ∙ ap (λ m. slice_index_or parts.settings.width m 1) (plain n) ∙ sym (same 0))
    (shape_from parts pool ws (suc n) h.1 (let k : length pool ≡ length ws = cc in k) (λ i. same (suc i) ∙ ap (λ m. slice_index_or parts.settings.width m 1) (later n i)))
  where
    plain : (m : ℕ) → m ≡ m + 0
    plain m = omega arith

    later : (m i : ℕ) → m + suc i ≡ suc m + i
    later m i = omega arith

pool_shape : (parts : SigParts) → IsWellFormed parts → (pool : List (List Tree)) → IsPool parts pool → map length pool ≡ parts.settings.width
pool_shape parts well pool is = shape_from parts pool parts.settings.width 0 is.values (is.sorts ∙ sym well.settings.width.one_each)
    (λ i. ap (λ m. slice_index_or parts.settings.width m 1) (sym (zero-add i)))

-- what the rule of given pools says
pub record AreReadable (parts : SigParts) (pools : List (List (List Tree))) : Type 0 where
  pub plain : Each (Each (Each (λ t. IsTrue (is_plain t)))) pools
  pub shape : Each (λ pool. map length pool ≡ parts.settings.width) pools
  pub few : length pools ≤ 16

pub given_readable : (parts : SigParts) (r : PoolRule) → IsWellFormed parts → r ≡ parts.settings.pools → AreReadable parts (given_in r)
given_readable parts r well is = by r (subst (IsPoolRule parts) (sym is) well.settings.pools)
  where
    by : (r : PoolRule) → IsPoolRule parts r → AreReadable parts (given_in r)
    by (rule.Given pools) h = record {
      plain = each_map (IsPool parts) _ (λ pool k. pool_plain parts well 0 pool k.values) pools h.each_pool;
      shape = each_map (IsPool parts) _ (λ pool k. pool_shape parts well pool k) pools h.each_pool;
      few = h.pools_range.1;
    }
    by (rule.Seeded seed height count) h = record { plain = tt; shape = tt; few = omega arith }

-- ids have the shape of their values
lengths_of : (bank : List Tree) (sorts : List (List ValueId)) → map length (map (trees_of bank) sorts) ≡ map length sorts
lengths_of bank [] = refl
lengths_of bank (ids ∷ sorts) = ap₂ ◌∷◌ (length_map (tree_of bank) ids) (lengths_of bank sorts)

pub ids_shape : (width : List ℕ) (bank : List Tree) (ids : Ids) (pools : List (List (List Tree))) → pools_of bank ids ≡ pools → Each (λ pool. map length pool ≡ width) pools → HasShape width ids
ids_shape width bank ids pools is h = all ids (subst (Each (λ pool. map length pool ≡ width)) (sym is) h)
  where
    all : (ids : Ids) → Each (λ pool. map length pool ≡ width) (pools_of bank ids) → HasShape width ids
    all [] h = tt
    all (sorts ∷ ids) h = (sym (lengths_of bank sorts) ∙ h.0, all ids h.1)

pub ids_count : (bank : List Tree) (ids : Ids) (pools : List (List (List Tree))) → pools_of bank ids ≡ pools → length ids ≡ length pools
ids_count bank ids pools is = sym (length_map (map (trees_of bank)) ids) ∙ ap length is
