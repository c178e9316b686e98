-- The law list by its names is one that the grammar spells.
use Rattle.std.proofs.Common.{◌≡◌, ℕ, zero, suc, ◌+◌, ◌-◌, ◌^◌, ◌<◌, ◌≤◌, Bool, true, false, ◌&&◌, nat_le, ltb-true, lt-ltb, le-leb, Some, option_map, slice_get, slice_index_or, List, [], ◌∷◌, length, map, sym, refl, ap, ap₂, ◌∙◌, subst, arith}
use Rattle.std.specs.List.{list_all, AllByRecursion}
use Rattle.std.proofs.lemmas.List.{length-map}
use Rattle.std.proofs.lemmas.Option.{slice_get_within}
use Rattle.rand_pcg.specs.Lcg.{Lcg}
use Rattle.rand_pcg.specs.Pcg.{pcg32}
use Rattle.law_sig.specs.Lists.{Each, total}
use Rattle.law_sig.specs.Names.{is_name}
use Rattle.law_sig.specs.Trees.{node_count, depth, greatest}
use Rattle.law_sig.specs.Signature.{symbol_at, args_of, vars_at, width_at, weight_at, sort_of}
use Rattle.law_sig.specs.Tests.{InU, Pools, first_of, weight, is_explored, is_bounded, bounded_step}
use Rattle.law_sig.specs.WellFormed.{IsBetween, is_constructor, value_step, IsValueOf, IsWritable, IsDeclared, IsPoolFrom, IsPool, IsSeeded, IsPoolRule, IsWellFormed, is_within_height}
use Rattle.law_sig.specs.Laws.{IsLaw}
use Rattle.law_sig.specs.declared.tree.SortId.{SortId}
use Rattle.law_sig.specs.declared.tree.SymId.{SymId}
use Rattle.law_sig.specs.declared.tree.Tree.{Tree}
use Rattle.law_sig.specs.declared.tree.Tree.TheVariants.{Var, App}
use Rattle.law_sig.specs.declared.tree.Tree.TheFolds.{fold-Tree}
use Rattle.law_sig.specs.declared.parts.Equation.{Equation}
use Rattle.law_sig.specs.declared.parts.PoolRule.{PoolRule}
use Rattle.law_sig.specs.declared.parts.PoolRule.TheVariants as rule
use Rattle.law_sig.specs.declared.parts.SigParts.{SigParts}
use Rattle.law_laws.proofs.ListFacts.{each_map}
use Rattle.law_laws.proofs.Sorts.{HaveSorts, sorted_app, sorted_var, both_true}
use Rattle.law_laws.proofs.TreeFacts.{tree_induct, fold-Var, fold-App, nodes-Var, nodes-App, depth-Var, depth-App, weight-Var, weight-App, bounded-Var}
use Rattle.law_lines.specs.Terms.{IsTerm, is_name_in, is_empty, head_fits, node_fits, nodes_fit}
use Rattle.law_lines.specs.Terms as raw
use Rattle.law_lines.specs.Lines.{AreValues}
use Rattle.law_lines.specs.Signature.{IsRawSig}
use Rattle.law_lines.specs.declared.want.Bounds.TheVariants.{Kept}
use Rattle.law_lines.specs.declared.want.Place.{Place}
use Rattle.law_lines.specs.declared.want.Place.TheVariants.{Equation as Side, Body, Value}
use Rattle.law_lines.specs.declared.raw.RawHead.{RawHead}
use Rattle.law_lines.specs.declared.raw.RawHead.TheVariants as head
use Rattle.law_lines.specs.declared.raw.RawTerm.{RawTerm}
use Rattle.law_lines.specs.declared.raw.RawTerm.TheOpen.{RawTerm-F}
use Rattle.law_lines.specs.declared.raw.RawTerm.TheFolds.{fold-roll-RawTerm}
use Rattle.law_lines.specs.declared.raw.RawLine.{RawLine}
use Rattle.law_typing.specs.Naming.{sort_name, symbol_name, raw_term, named_term, name_step}
use Rattle.law_typing.specs.Typed.{HasFewSorts}
use Rattle.law_typing.proofs.Spelled.{name_same, named_nodes, named_depth}
use Rattle.law_ids.proofs.GivenFacts.{have_count}
use Rattle.law_draws.specs.Draws.{choices, chosen, Drawn, in_turn, value_drawn, values_drawn, sorts_of, pool_drawn, generator_of, pools_from, pools_by}
use Rattle.law_draws.specs.Sizes.{AreSmall}
use Rattle.law_draws.proofs.DrawFacts.{above_zero, chosen_within, drawing, in_turn_length}
use Rattle.law_draws.proofs.First.{length_first}
use Rattle.law_draws.proofs.ShapeFacts.{pools_count}
use Rattle.law_cert_text.specs.declared.cert.LawList.{LawList}
use Rattle.law_cert_text.specs.Certificates.{IsWritten, IsValues, IsPlainLaw, IsListText}
use Rattle.law_cert_text.specs.Certificates as text
use Rattle.law_explore.specs.Refusals.{HasSmallValues}
use Rattle.law_explore.specs.Named.{named_values, named_pools, named_laws, named_list, HasFewLaws}

-- Lists

each_or : {A : Type 0} (P : A → Type 0) (xs : List A) (at : ℕ) (d : A) → P d → Each P xs → P (slice_index_or xs at d)
each_or P [] at d h have = h
each_or P (x ∷ xs) zero d h have = have.0
each_or P (x ∷ xs) (suc at) d h have = each_or P xs at d h have.1

each_within : {A : Type 0} (P : A → Type 0) (xs : List A) (at : ℕ) (d : A) → at < length xs → Each P xs → P (slice_index_or xs at d)
each_within P [] at d less have = absurd (omega arith)
each_within P (x ∷ xs) zero d less have = have.0
each_within P (x ∷ xs) (suc at) d less have = each_within P xs at d (omega arith) have.1

each_first : {A : Type 0} (P : A → Type 0) (n : ℕ) (f : ℕ → A) → ((i : ℕ) → i < n → P (f i)) → Each P (first_of n f)
each_first P zero f have = tt
each_first P (suc n) f have = (have 0 (omega arith), each_first P n (λ i. f (suc i)) (λ i less. have (suc i) (omega arith)))

found : {A : Type 0} (xs : List A) (at : ℕ) → at < length xs → (x : A) × (slice_get xs at ≡ Some x)
found [] at less = absurd (omega arith)
found (x ∷ xs) zero less = (x, refl)
found (x ∷ xs) (suc at) less = found xs at (omega arith)

sort_spelled : (parts : SigParts) → IsWellFormed parts → (n : ℕ) → n < length parts.sort_names → is_name_in Kept (sort_name parts (record { 0 = n })) ≡ true
sort_spelled parts well n less = name_same (slice_index_or parts.sort_names n []) ∙ each_within (λ name. is_name name ≡ true) parts.sort_names n [] less well.sort_names.spelled

symbol_spelled : (parts : SigParts) → IsWellFormed parts → (f : SymId) → f.0 < length parts.symbols → is_name_in Kept (symbol_name parts f) ≡ true
symbol_spelled parts well f less =
    name_same (symbol_name parts f)
    ∙ each_within (λ name. is_name name ≡ true) parts.symbol_names f.0 [] (subst (λ n. f.0 < n) (sym well.one_name_each) less) well.symbol_names.spelled

-- Terms whose nodes fit where they stand

abbrev Fits : Place → SigParts → Tree → Type 0
Fits place parts t = nodes_fit Kept place (named_term parts t) ≡ true

fits_raw : (place : Place) (h : RawHead) (args : List RawTerm)
    → nodes_fit Kept place (raw_term h args) ≡ node_fits Kept place (record { head = h; args = map (nodes_fit Kept place) args })
fits_raw place h args = let l : RawTerm-F RawTerm = record { head = h; args = args } in fold-roll-RawTerm Bool (node_fits Kept place) l

head_name : (place : Place) (name : List ℕ) (alone : Bool) → head_fits Kept place (head.Name name) alone ≡ is_name_in Kept name
head_name Side name true = refl
head_name Side name false = refl
head_name Body name true = refl
head_name Body name false = refl
head_name Value name true = refl
head_name Value name false = refl

all_fit : (place : Place) (parts : SigParts) (ts : List Tree) → Each (Fits place parts) ts → list_all (λ fits. fits) (map (nodes_fit Kept place) (map (named_term parts) ts)) ≡ true
all_fit place parts [] have = refl
all_fit place parts (t ∷ ts) have = ap₂ ◌&&◌ have.0 (all_fit place parts ts have.1)

app_fits : (place : Place) (parts : SigParts) → IsWellFormed parts → (f : SymId) (args : List Tree) → f.0 < length parts.symbols → length args ≤ 8 → Each (Fits place parts) args
    → Fits place parts (App f args)
app_fits place parts well f args less few have =
    let raws = map (named_term parts) args in
    let below = map (nodes_fit Kept place) raws in
    ap (nodes_fit Kept place) (fold-App RawTerm (name_step parts) f args) ∙ fits_raw place (head.Name (symbol_name parts f)) raws
    ∙ ap₂ ◌&&◌ (head_name place (symbol_name parts f) (is_empty below) ∙ symbol_spelled parts well f less)
    (ap₂ ◌&&◌ (ap (λ n. nat_le n 8) (length-map raws (nodes_fit Kept place) ∙ length-map args (named_term parts)) ∙ le-leb (length args) 8 few) (all_fit place parts args have))

var_fits : (parts : SigParts) → IsWellFormed parts → (s : SortId) (i : ℕ) → s.0 < length parts.sort_names → i < 2 ^ 32 → Fits Side parts (Var s i)
var_fits parts well s i declared less =
    ap (nodes_fit Kept Side) (fold-Var RawTerm (name_step parts) s i) ∙ fits_raw Side (head.Var (sort_name parts s) i) []
    ∙ ap₂ ◌&&◌ (ap₂ ◌&&◌ (sort_spelled parts well s.0 declared) (lt-ltb i (2 ^ 32) less)) refl

-- well-sorted terms whose nodes pass a test
abbrev Passes : Place → SigParts → (Tree → Bool) → Tree → Type 0
Passes place parts test t = (sort : SortId) → sort_of parts t ≡ Some sort → test t ≡ true → Fits place parts t

args_fit : (place : Place) (parts : SigParts) (test : Tree → Bool) (ts : List Tree) (ws : List SortId) → Each (Passes place parts test) ts → HaveSorts parts ts ws
    → list_all (λ b. b) (map test ts) ≡ true → Each (Fits place parts) ts
args_fit place parts test [] [] have sorts e = tt
args_fit place parts test [] (w ∷ ws) have sorts e = absurd sorts
args_fit place parts test (t ∷ ts) [] have sorts e = absurd sorts
args_fit place parts test (t ∷ ts) (w ∷ ws) have sorts e =
    let both = both_true (test t) (list_all (λ b. b) (map test ts)) e in
    (have.0 w sorts.0 both.0, args_fit place parts test ts ws have.1 sorts.1 both.1)

sorted_fits : (place : Place) (parts : SigParts) (test : Tree → Bool) → IsWellFormed parts → (f : SymId) (args : List Tree) (sort : SortId) → Each (Passes place parts test) args
    → sort_of parts (App f args) ≡ Some sort → list_all (λ b. b) (map test args) ≡ true → Fits place parts (App f args)
sorted_fits place parts test well f args sort have sorted e =
    let a = sorted_app parts f args sort sorted in
    app_fits place parts well f args (slice_get_within parts.symbols f.0 a.symbol a.declared)
    (omega (arith, have_count parts args (args_of a.symbol) a.sorts, (well.symbols f a.symbol a.declared).args_bound))
    (args_fit place parts test args (args_of a.symbol) have a.sorts e)

few_vars : (parts : SigParts) → IsWellFormed parts → (s : SortId) → vars_at parts s ≤ 8
few_vars parts well s = (each_or (IsBetween 0 8) parts.settings.vars s.0 0 (omega arith, omega arith) well.settings.vars.in_range).1

term_fits : (parts : SigParts) → IsWellFormed parts → (t : Tree) → Passes Side parts (is_bounded parts) t
term_fits parts well = tree_induct (Passes Side parts (is_bounded parts))
    (λ s i sort sorted e. var_fits parts well s i (ltb-true s.0 (length parts.sort_names) (sorted_var parts s i sort sorted).0)
    (omega (arith, ltb-true i (vars_at parts s) (sym (bounded-Var parts s i) ∙ e), few_vars parts well s)))
    (λ f args have sort sorted e.
    sorted_fits Side parts (is_bounded parts) well f args sort have sorted
    (both_true (is_explored parts f) (list_all (λ b. b) (map (is_bounded parts) args)) (sym (fold-App Bool (bounded_step parts) f args) ∙ e)).1)

abbrev is_made : SigParts → Tree → Bool
is_made parts = fold-Tree Bool (value_step parts)

value_fits : (parts : SigParts) → IsWellFormed parts → (t : Tree) → Passes Value parts (is_made parts) t
value_fits parts well = tree_induct (Passes Value parts (is_made parts))
    (λ s i sort sorted e. let k : false ≡ true = sym (fold-Var Bool (value_step parts) s i) ∙ e in cc)
    (λ f args have sort sorted e.
    sorted_fits Value parts (is_made parts) well f args sort have sorted
    (both_true (is_constructor (symbol_at parts f)) (list_all (λ b. b) (map (is_made parts) args)) (sym (fold-App Bool (value_step parts) f args) ∙ e)).1)

-- a term that fits and is small is one that the grammar spells
is_term : (place : Place) (parts : SigParts) (t : Tree) → Fits place parts t → node_count t ≤ 4096 → depth t ≤ 256 → IsTerm Kept place (named_term parts t)
is_term place parts t fits small low = record {
  nodes = fits;
  size = le-leb (raw.node_count (named_term parts t)) 4096 (subst (λ n. n ≤ 4096) (sym (named_nodes parts t)) small);
  deep = le-leb (raw.depth (named_term parts t)) 256 (subst (λ n. n ≤ 256) (sym (named_depth parts t)) low);
}

-- Terms of the universe

some_weight : (parts : SigParts) → IsWellFormed parts → (f : SymId) → 1 ≤ weight_at parts f
some_weight parts well f = (each_or (IsBetween 1 4) parts.settings.weights f.0 1 (omega arith, omega arith) well.settings.weights.in_range).0

light_args : (parts : SigParts) (ts : List Tree) → Each (λ t. node_count t ≤ weight parts t) ts → total (map node_count ts) ≤ total (map (weight parts) ts)
light_args parts [] have = omega arith
light_args parts (t ∷ ts) have = omega (arith, have.0, light_args parts ts have.1)

few_nodes : (parts : SigParts) → IsWellFormed parts → (t : Tree) → node_count t ≤ weight parts t
few_nodes parts well = tree_induct (λ t. node_count t ≤ weight parts t)
    (λ s i. omega (arith, nodes-Var s i, weight-Var parts s i))
    (λ f args have. omega (arith, nodes-App f args, weight-App parts f args, some_weight parts well f, light_args parts args have))

low_args : (ts : List Tree) → Each (λ t. depth t ≤ node_count t) ts → greatest (map depth ts) ≤ total (map node_count ts)
low_args [] have = omega arith
low_args (t ∷ ts) have = omega (arith, have.0, low_args ts have.1)

low_nodes : (t : Tree) → depth t ≤ node_count t
low_nodes = tree_induct (λ t. depth t ≤ node_count t)
    (λ s i. omega (arith, nodes-Var s i, depth-Var s i))
    (λ f args have. omega (arith, nodes-App f args, depth-App f args, low_args args have))

side_spelled : (parts : SigParts) → IsWellFormed parts → (sort : SortId) (t : Tree) → InU parts sort t → IsWritten (named_term parts t)
side_spelled parts well sort t u =
    let few : node_count t ≤ 32 = omega (arith, few_nodes parts well t, u.small, well.settings.size.1) in
    is_term Side parts t (term_fits parts well t sort u.sorted u.bounded) (omega arith) (omega (arith, low_nodes t))

laws_spelled : (parts : SigParts) (pools : Pools) → IsWellFormed parts → (number : ℕ) (laws : List Equation) → number + length laws ≤ 2 ^ 63 → Each (IsLaw parts pools) laws
    → AllByRecursion IsPlainLaw (named_laws parts number laws)
laws_spelled parts pools well number [] few have = tt
laws_spelled parts pools well number (e ∷ es) few have = (
  (omega arith, tt, side_spelled parts well have.0.sort e.left have.0.left, side_spelled parts well have.0.sort e.right have.0.right),
  laws_spelled parts pools well (suc number) es (omega arith) have.1,
)

-- Values

record IsFine (parts : SigParts) (v : Tree) : Type 0 where
  fits : Fits Value parts v
  low : depth v ≤ 256

record AreFine (parts : SigParts) (values : List Tree) : Type 0 where
  some : 0 < length values
  each : Each (IsFine parts) values

record IsFinePool (parts : SigParts) (pool : List (List Tree)) : Type 0 where
  count : length pool ≡ length parts.sort_names
  each : Each (AreFine parts) pool

some_width : (parts : SigParts) → IsWellFormed parts → (s : SortId) → 1 ≤ width_at parts s
some_width parts well s = (each_or (IsBetween 1 16) parts.settings.width s.0 1 (omega arith, omega arith) well.settings.width.in_range).0

-- given ones

given_from : (parts : SigParts) → IsWellFormed parts → (n : ℕ) (pool : List (List Tree)) → IsPoolFrom parts n pool → Each (AreFine parts) pool
given_from parts well n [] h = tt
given_from parts well n (values ∷ pool) h = (
  record {
    some = omega (arith, h.0.count, some_width parts well (record { 0 = n }));
    each = each_map (λ v. IsValueOf parts (record { 0 = n }) v × IsWritable (node_count v) (depth v)) (IsFine parts)
        (λ v k. record { fits = value_fits parts well v (record { 0 = n }) k.0.sorted k.0.made; low = k.1.depth_bound }) values h.0.each;
  },
  given_from parts well (suc n) pool h.1,
)

-- those of a seed

drawn_on : {S Y : Type 0} (Q : S → Type 0) (P : Y → Type 0) (draw : S → Lcg → Drawn Y) → ((s : S) (g : Lcg) → Q s → P (draw s g).made)
    → (ss : List S) (g : Lcg) → Each Q ss → Each P (in_turn draw ss g).made
drawn_on Q P draw have [] g h = tt
drawn_on Q P draw have (s ∷ ss) g h = (have s g h.0, drawn_on Q P draw have ss (draw s g).after h.1)

-- a value that was drawn with so much height left
record IsDrawnFine (parts : SigParts) (n : ℕ) (v : Tree) : Type 0 where
  fits : Fits Value parts v
  low : depth v ≤ n

lowest : (n : ℕ) (ts : List Tree) → Each (λ t. depth t ≤ n) ts → greatest (map depth ts) ≤ n
lowest n [] have = omega arith
lowest n (t ∷ ts) have = omega (arith, have.0, lowest n ts have.1)

drawn_fine : (parts : SigParts) → IsWellFormed parts → (n : ℕ) (sort : SortId) (g : Lcg) → is_within_height parts n sort ≡ true → IsDrawnFine parts n (value_drawn parts n sort g).made
drawn_fine parts well zero sort g within = let some = above_zero parts zero sort within in absurd (omega arith)
drawn_fine parts well (suc n) sort g within =
    let less_one : suc n - 1 ≡ n = omega arith in
    let among = choices parts (suc n) sort in
    let (word, after) = pcg32 g in
    let f = chosen among word in
    let less = chosen_within parts (suc n) sort among word within refl in
    let (symbol, there) = found parts.symbols f.0 less in
    let sorts = args_of symbol in
    let drawn = drawing parts (suc n) sort g after among word sorts well within refl refl refl (ap (option_map args_of) there) in
    let fields = in_turn (value_drawn parts n) sorts after in
    let each = drawn_on (λ s. is_within_height parts n s ≡ true) (IsDrawnFine parts n) (value_drawn parts n) (drawn_fine parts well n) sorts after
    (subst (λ m. Each (λ s. is_within_height parts m s ≡ true) sorts) less_one drawn.within) in
    let made = subst (λ m. (value_drawn parts (suc n) sort g).made ≡ App f (in_turn (value_drawn parts m) sorts after).made) less_one drawn.made in
    subst (IsDrawnFine parts (suc n)) (sym made) (record {
      fits = app_fits Value parts well f fields.made less (subst (λ k. k ≤ 8) (sym (in_turn_length (value_drawn parts n) sorts after)) drawn.few)
          (each_map (IsDrawnFine parts n) (Fits Value parts) (λ v h. h.fits) fields.made each);
      low = omega (arith, depth-App f fields.made, lowest n fields.made (each_map (IsDrawnFine parts n) (λ v. depth v ≤ n) (λ v h. h.low) fields.made each));
    })

drawn_values : (parts : SigParts) → IsWellFormed parts → (seed height count : ℕ) → IsSeeded parts seed height count → (s : SortId) (g : Lcg) → IsDeclared parts s
    → AreFine parts (values_drawn parts height s g).made
drawn_values parts well seed height count is s g declared =
    let places = first_of (width_at parts s) (λ place. s) in
    record {
      some = subst (λ n. 0 < n) (sym (in_turn_length (value_drawn parts height) places g ∙ length_first (width_at parts s) (λ place. s))) (omega (arith, some_width parts well s));
      each = drawn_on (IsDeclared parts) (IsFine parts) (value_drawn parts height)
          (λ sort h k. let fine = drawn_fine parts well height sort h (is.high_enough sort k) in record { fits = fine.fits; low = omega (arith, fine.low, is.height_range.1) })
          places g (each_first (IsDeclared parts) (width_at parts s) (λ place. s) (λ i less. declared));
    }

drawn_pool : (parts : SigParts) → IsWellFormed parts → (seed height count : ℕ) → IsSeeded parts seed height count → (g : Lcg) → IsFinePool parts (pool_drawn parts height g).made
drawn_pool parts well seed height count is g = record {
  count = in_turn_length (values_drawn parts height) (sorts_of parts) g ∙ length_first (length parts.sort_names) (λ n. record { 0 = n });
  each = drawn_on (IsDeclared parts) (AreFine parts) (values_drawn parts height) (drawn_values parts well seed height count is) (sorts_of parts) g
      (each_first (IsDeclared parts) (length parts.sort_names) (λ n. record { 0 = n }) (λ i less. lt-ltb i (length parts.sort_names) less));
}

-- Pools

record AreFinePools (parts : SigParts) (pools : Pools) : Type 0 where
  some : 0 < length pools
  each : Each (IsFinePool parts) pools

fine_from : (parts : SigParts) (r : PoolRule) → IsWellFormed parts → IsPoolRule parts r → AreFinePools parts (pools_from parts r)
fine_from parts (rule.Given pools) well is = record {
  some = omega (arith, is.pools_range.0);
  each = each_map (IsPool parts) (IsFinePool parts) (λ pool k. record { count = k.sorts; each = given_from parts well 0 pool k.values }) pools is.each_pool;
}
fine_from parts (rule.Seeded seed height count) well is = record {
  some = subst (λ n. 0 < n) (sym (pools_count parts height count (generator_of seed))) (omega (arith, is.count_range.0));
  each = drawn_on (λ (number : ℕ). number < count) (IsFinePool parts) (λ (number : ℕ). pool_drawn parts height)
      (λ number g less. drawn_pool parts well seed height count is g) (first_of count (λ number. number)) (generator_of seed)
      (each_first (λ (number : ℕ). number < count) count (λ number. number) (λ i less. less));
}

fine_pools : (parts : SigParts) (pools : Pools) → IsWellFormed parts → pools ≡ pools_by parts → AreFinePools parts pools
fine_pools parts pools well is = subst (AreFinePools parts) (sym is) (fine_from parts parts.settings.pools well well.settings.pools)

-- no pool has values for more than 64 sorts
pub few_sorts : (parts : SigParts) (pools : Pools) → IsWellFormed parts → pools ≡ pools_by parts → Each HasFewSorts pools
few_sorts parts pools well is =
    each_map (IsFinePool parts) HasFewSorts (λ pool k. omega (arith, k.count, well.sorts_range.1)) pools (fine_pools parts pools well is).each

are_values : (parts : SigParts) (values : List Tree) → Each (IsFine parts) values → AreSmall values → AreValues Kept (map (named_term parts) values)
are_values parts [] fine small = tt
are_values parts (v ∷ values) fine small = (is_term Value parts v fine.0.fits small.0 fine.0.low, are_values parts values fine.1 small.1)

values_spelled : (parts : SigParts) → IsWellFormed parts → (n : ℕ) (pool : List (List Tree)) → n + length pool ≤ length parts.sort_names → Each (AreFine parts) pool → Each AreSmall pool
    → AllByRecursion IsValues (named_values parts n pool)
values_spelled parts well n [] within fine small = tt
values_spelled parts well n (values ∷ pool) within fine small = (
  (sort_spelled parts well n (omega arith), subst (λ k. 0 < k) (sym (length-map values (named_term parts))) fine.0.some, are_values parts values fine.0.each small.0),
  values_spelled parts well (suc n) pool (omega arith) fine.1 small.1,
)

values_count : (parts : SigParts) (n : ℕ) (pool : List (List Tree)) → length (named_values parts n pool) ≡ length pool
values_count parts n [] = refl
values_count parts n (values ∷ pool) = ap suc (values_count parts (suc n) pool)

pools_spelled : (parts : SigParts) → IsWellFormed parts → (pools : Pools) → Each (IsFinePool parts) pools → Each (Each AreSmall) pools → AllByRecursion text.IsPool (named_pools parts pools)
pools_spelled parts well [] fine small = tt
pools_spelled parts well (pool ∷ pools) fine small = (
  record {
    some = omega (arith, values_count parts 0 pool, fine.0.count, well.sorts_range.0);
    each = values_spelled parts well 0 pool (omega (arith, fine.0.count)) fine.0.each small.0;
  },
  pools_spelled parts well pools fine.1 small.1,
)

-- The whole list

pub list_spelled : (lines : List RawLine) (parts : SigParts) (pools : Pools) (laws : List Equation) (list : LawList) → IsRawSig lines → IsWellFormed parts → pools ≡ pools_by parts
    → HasSmallValues parts → Each (IsLaw parts pools) laws → HasFewLaws parts laws → list ≡ named_list lines parts pools laws → IsListText list
list_spelled lines parts pools laws list raw well are small holds few is =
    let fine = fine_pools parts pools well are in
    subst IsListText (sym is) (record {
      sig = raw;
      pools = record {
        some = subst (λ n. 0 < n) (sym (length-map pools (named_values parts 0))) fine.some;
        each = pools_spelled parts well pools fine.each (subst (Each (Each AreSmall)) (sym are) small);
      };
      laws = laws_spelled parts pools well (length parts.settings.background + 1) laws (omega (arith, few)) holds;
    })
