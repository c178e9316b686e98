-- A text without faults states a signature.
use Rattle.std.proofs.Common.{◌≡◌, ℕ, zero, suc, ◌+◌, ◌<◌, ◌≤◌, ◌^◌, List, [], ◌∷◌, ◌++◌, map, length, length-append, Bool, true, false, not, ◌&&◌, ◌||◌, Some, None, slice_get, IsTrue, rules, arith, true≢false, refl, sym, ap, ap₂, ◌∙◌, subst}
use Rattle.std.specs.List.{AllByRecursion}
use Rattle.std.proofs.lemmas.List.{length-map}
use Rattle.law_sig.specs.Lists.{Each, AreDistinct}
use Rattle.law_sig.specs.Names.{is_name}
use Rattle.law_sig.specs.Trees.{joined}
use Rattle.law_sig.specs.Tests.{first_of}
use Rattle.law_sig.specs.Signature.{symbol_at}
use Rattle.law_sig.specs.WellFormed.{IsBetween, IsDeclared, IsSymbol, IsValueOf, IsPool, IsPoolRule, IsSeeded, AreGiven, AreNumbers, AreNames, AreSettings, IsWellFormed}
use Rattle.law_sig.specs.declared.tree.SortId.{SortId}
use Rattle.law_sig.specs.declared.tree.SymId.{SymId}
use Rattle.law_sig.specs.declared.tree.Tree.{Tree}
use Rattle.law_sig.specs.declared.parts.Sym.{Sym}
use Rattle.law_sig.specs.declared.parts.SigParts.{SigParts}
use Rattle.law_laws.proofs.ListFacts.{each_map}
use Rattle.law_lines.specs.Signature.{IsRawSig}
use Rattle.law_lines.specs.declared.raw.RawLine.{RawLine}
use Rattle.law_lines.specs.declared.raw.RawLine.TheVariants as line
use Rattle.law_typing.specs.Naming.{symbol_name}
use Rattle.law_typing.specs.Declarations.{whole, is_low, has_value}
use Rattle.law_typing.specs.LineFaults.{after_sort, after_symbol, nothing_seen, is_too_low, some_too_low, case_names, first_fault}
use Rattle.law_typing.specs.Stated.{symbol_id, stated}
use Rattle.law_typing.specs.Typed.{Version, FitsVersion, IsTypedAs, settings_lines, pools_line, sort_ids, sort_block, background_line, given_lines}
use Rattle.law_typing.specs.Typed.Version.{first, second, third}
use Rattle.law_typing.specs.declared.seen.Seen.{Seen}
use Rattle.law_typing.specs.declared.whole.Whole.{Whole}
use Rattle.law_typing.proofs.Laid.{ConRow, SortRow, FunRow, PoolRows, Layout, funs_then, pools_then, pool_lines, rule_line, background_then, start_then, tail_lines, declared_lines, layout_lines, FitsWeight, FitsCon, FitsFun, FitsSortRow, HasPools, HasSorts, IsLayout}
use Rattle.law_typing.proofs.Laid.PoolRows.{given, seeded}
use Rattle.law_typing.proofs.LaidOut.{laid_out}
use Rattle.law_typing.proofs.Gathered.{per_con}
use Rattle.law_typing.proofs.Told.{con_sym, con_syms, fun_syms, stated_row, stated_pool_rule}
use Rattle.law_typing.proofs.Passed.{SortsGood, ConsGood, FunsGood, EndsGood, cons_seen, sorts_seen, rules_seen, no_faults, all_good}
use Rattle.law_typing.proofs.Fresh.{FreshFrom, fresh_few, fresh_distinct, fresh_sorts, fresh_names}
use Rattle.law_typing.proofs.Spelled.{ConSpelled, SortSpelled, FunSpelled, EndsSpelled, all_spelled}
use Rattle.law_typing.proofs.States.{Sound, states_all, short_is}
use Rattle.law_typing.proofs.Blocks.{sort_no, nums, past_all, first_nums, placed, rows_placed, blocks_placed, sorts_again}
use Rattle.law_typing.proofs.SymbolsSound.{sym_found, FunsOk, funs_ok, funs_lines, funs_split, skip_sorts, all_syms, are_numbered}
use Rattle.law_typing.proofs.HeightSound.{low_value, low_within}
use Rattle.law_typing.proofs.TailSound.{ExploredOk, explored_ok, ids_within, ids_named, ids_distinct, BackgroundOk, background_ok, pools_ok, pools_few}

-- Lists

each_mapped : {A B : Type 0} (P : B → Type 0) (f : A → B) (xs : List A) → Each (λ x. P (f x)) xs → Each P (map f xs)
each_mapped P f [] h = tt
each_mapped P f (x ∷ xs) h = (h.0, each_mapped P f xs h.1)

each_both : {A : Type 0} (P : A → Type 0) (xs ys : List A) → Each P xs → Each P ys → Each P (xs ++ ys)
each_both P [] ys h k = k
each_both P (x ∷ xs) ys h k = (h.0, each_both P xs ys h.1 k)

each_con : {A : Type 0} (P : A → Type 0) (g : ConRow → A) (ss : List SortRow) → Each (λ (s : SortRow). Each (λ c. P (g c)) s.cons) ss → Each P (per_con g ss)
each_con P g [] h = tt
each_con P g (s ∷ ss) h = each_both P (map g s.cons) (per_con g ss) (each_mapped P g s.cons h.0) (each_con P g ss h.1)

cons_count : {A : Type 0} (g : ConRow → A) (sorts : List (List ℕ)) (m : ℕ) (ss : List SortRow) → length (per_con g ss) ≡ length (con_syms sorts m ss)
cons_count g sorts m [] = refl
cons_count g sorts m (s ∷ ss) = length-append (map g s.cons) (per_con g ss)
    ∙ ap₂ ◌+◌ (length-map s.cons g ∙ sym (length-map s.cons (con_sym sorts m))) (cons_count g sorts (suc m) ss)
    ∙ sym (length-append (map (con_sym sorts m) s.cons) (con_syms sorts (suc m) ss))

funs_count : {A : Type 0} (h : FunRow → A) (text : Whole) (v : Version) (fs : List FunRow) (tail : List RawLine) → length (map h fs) ≡ length (fun_syms text v fs tail)
funs_count h text v [] tail = refl
funs_count h text v (r ∷ fs) tail = ap suc (funs_count h text v fs tail)

as_many : {A : Type 0} (g : ConRow → A) (h : FunRow → A) (text : Whole) (v : Version) (ss : List SortRow) (fs : List FunRow) (tail : List RawLine)
    → length (per_con g ss ++ map h fs) ≡ length (con_syms text.sorts 0 ss ++ fun_syms text v fs tail)
as_many g h text v ss fs tail = length-append (per_con g ss) (map h fs) ∙ ap₂ ◌+◌ (cons_count g text.sorts 0 ss) (funs_count h text v fs tail)
    ∙ sym (length-append (con_syms text.sorts 0 ss) (fun_syms text v fs tail))

-- Ranges of all sorts and symbols

sort_ranges : (text : Whole) (seen : Seen) (ss : List SortRow) → SortsGood text seen ss
    → Each (λ (s : SortRow). IsBetween 0 8 s.vars × IsBetween 1 16 s.width × Each (λ (c : ConRow). IsBetween 1 4 c.weight) s.cons) ss
sort_ranges text seen [] h = tt
sort_ranges text seen (s ∷ ss) h = ((h.0.vars, h.0.width, cons (after_sort seen) s.cons h.1), sort_ranges text (cons_seen (after_sort seen) s.cons) ss h.2)
  where
    cons : (seen : Seen) (cs : List ConRow) → ConsGood text seen cs → Each (λ (c : ConRow). IsBetween 1 4 c.weight) cs
    cons seen [] h = tt
    cons seen (c ∷ cs) h = (h.0.weight, cons (after_symbol seen) cs h.1)

fun_ranges : (text : Whole) (v : Version) (seen : Seen) (fs : List FunRow) (tail : List RawLine) → FunsGood text v seen fs tail → Each (λ (r : FunRow). IsBetween 1 4 r.weight) fs
fun_ranges text v seen [] tail h = tt
fun_ranges text v seen (r ∷ fs) tail h = (h.0.weight, fun_ranges text v (rules_seen (after_symbol seen) r.rules) fs tail h.2)

cons_sorts : (seen : Seen) (cs : List ConRow) → (cons_seen seen cs).sorts ≡ seen.sorts
cons_sorts seen [] = refl
cons_sorts seen (c ∷ cs) = cons_sorts (after_symbol seen) cs

valued_at : (text : Whole) (seen : Seen) (ss : List SortRow) → SortsGood text seen ss → (k i : ℕ) → k ≡ seen.sorts + i → i < length ss → has_value text (record { 0 = k }) ≡ true
valued_at text seen [] h k i e l = absurd (omega arith)
valued_at text seen (s ∷ ss) h k zero e l = let plain : k ≡ seen.sorts = omega arith in ap (λ n. has_value text (record { 0 = n })) plain ∙ h.0.valued
valued_at text seen (s ∷ ss) h k (suc i) e l =
    let c = cons_sorts (after_sort seen) s.cons in
    let n : k ≡ (cons_seen (after_sort seen) s.cons).sorts + i = next (cons_seen (after_sort seen) s.cons).sorts c in
    let m : i < length ss = omega arith in
    valued_at text (cons_seen (after_sort seen) s.cons) ss h.2 k i n m
  where
    next : (n : ℕ) → n ≡ seen.sorts + 1 → k ≡ n + i
    next n q = omega arith

low_enough : (text : Whole) (height : ℕ) (from count : ℕ) → some_too_low text height from count ≡ false → (k i : ℕ) → k ≡ from + i → i < count
    → is_too_low text height (record { 0 = k }) ≡ false
low_enough text height from zero e k i q l = absurd (omega arith)
low_enough text height from (suc count) e k i q l = by (is_too_low text height (record { 0 = from })) refl e i q l (low_enough text height (from + 1) count)
  where
    by : (b : Bool) → is_too_low text height (record { 0 = from }) ≡ b → (b || some_too_low text height (from + 1) count) ≡ false → (i : ℕ) → k ≡ from + i → i < suc count
        → (some_too_low text height (from + 1) count ≡ false → (k i : ℕ) → k ≡ (from + 1) + i → i < count → is_too_low text height (record { 0 = k }) ≡ false)
        → is_too_low text height (record { 0 = k }) ≡ false
    by true t h i q l rest = absurd (true≢false h)
    by false t h zero q l rest = let plain : k ≡ from = omega arith in ap (λ n. is_too_low text height (record { 0 = n })) plain ∙ t
    by false t h (suc i) q l rest = let n : k ≡ (from + 1) + i = omega arith in let m : i < count = omega arith in rest h k i n m

not_low : (a c : Bool) → (a && not c) ≡ false → a ≡ true → c ≡ true
not_low true true e h = refl
not_low true false e h = absurd (true≢false e)
not_low false c e h = absurd (true≢false (sym h))

-- The settings again

abbrev start : Version → ℕ → ℕ → ℕ → RawLine → List RawLine → List RawLine
start (first vars width) size budget pairs pl rest = line.Head ∷ line.Vars vars ∷ line.Size size ∷ line.Width width ∷ line.Budget budget ∷ line.Pairs pairs ∷ pl ∷ rest
start second size budget pairs pl rest = line.Head2 ∷ line.Size size ∷ line.Budget budget ∷ line.Pairs pairs ∷ pl ∷ rest
start third size budget pairs pl rest = line.Head3 ∷ line.Size size ∷ line.Budget budget ∷ line.Pairs pairs ∷ pl ∷ rest

start_laid : (v : Version) (size budget pairs : ℕ) (ps : PoolRows) (rest : List RawLine) → start_then v size budget pairs ps rest ≡ start v size budget pairs (rule_line ps) rest
start_laid (first vars width) size budget pairs ps rest = refl
start_laid second size budget pairs ps rest = refl
start_laid third size budget pairs ps rest = refl

start_typed : (v : Version) (parts : SigParts) (rest : List RawLine)
    → start v parts.settings.size parts.settings.budget parts.settings.pairs (pools_line parts.settings.pools) rest ≡ settings_lines v parts ++ rest
start_typed (first vars width) parts rest = refl
start_typed second parts rest = refl
start_typed third parts rest = refl

module _ (text : Whole) (parts : SigParts) (l : Layout) (x : Sound text parts l) where
  fresh_s : FreshFrom 64 text.sorts 0 text.sorts
  fresh_s = subst (FreshFrom 64 text.sorts 0) (sym x.states.sorts) (fresh_sorts text l.sorts nothing_seen refl x.good.sorts)

  fresh_n : FreshFrom 4294967295 text.names 0 text.names
  fresh_n = subst (FreshFrom 4294967295 text.names 0) (sym x.states.names) (fresh_names text l.version nothing_seen l.sorts l.funs (tail_lines l) refl x.good.sorts x.good.funs)

  sorts_distinct : AreDistinct parts.sort_names
  sorts_distinct = subst AreDistinct x.states.declares.sorts (fresh_distinct 64 text.sorts fresh_s)

  names_distinct : AreDistinct parts.symbol_names
  names_distinct = subst AreDistinct x.states.declares.names (fresh_distinct 4294967295 text.names fresh_n)

  sort_count : length parts.sort_names ≡ length l.sorts
  sort_count = ap length (sym x.states.declares.sorts ∙ x.states.sorts) ∙ length-map l.sorts (λ (s : SortRow). s.name)

  one_each : length parts.symbol_names ≡ length parts.symbols
  one_each = ap length (sym x.states.declares.names ∙ x.states.names)
      ∙ as_many (λ c. c.name) (λ r. r.name) text l.version l.sorts l.funs (tail_lines l) ∙ ap length (sym x.states.symbols)

  few_sorts : length parts.sort_names ≤ 64
  few_sorts =
      let f = fresh_few 64 text.sorts 0 text.sorts fresh_s (omega arith) in
      let n : length text.sorts ≤ 64 = omega (arith, f) in
      subst (λ z. length z ≤ 64) x.states.declares.sorts n

  few_symbols : length parts.symbols < 2 ^ 32
  few_symbols =
      let f = fresh_few 4294967295 text.names 0 text.names fresh_n (omega arith) in
      let n : length text.names < 2 ^ 32 = omega (arith, f) in
      subst (λ z. z < 2 ^ 32) (ap length x.states.declares.names ∙ one_each) n

  some_sort : (ss : List SortRow) → HasSorts ss → 1 ≤ length ss
  some_sort [] h = absurd h
  some_sort (s ∷ ss) h = omega arith

  syms : FunsOk text parts l.version (past_all 0 l.sorts) l.funs (tail_lines l)
  syms = funs_ok text parts l.version (sorts_seen nothing_seen l.sorts) (past_all 0 l.sorts) l.funs (tail_lines l) x.states.declares names_distinct one_each
      (seen_count nothing_seen 0 l.sorts refl) refl (placed text parts l x.states).funs x.good.funs x.spelled.funs
    where
      con_count : (seen : Seen) (k : ℕ) (cs : List ConRow) → seen.symbols ≡ k → (cons_seen seen cs).symbols ≡ Rattle.law_typing.proofs.Blocks.past k cs
      con_count seen k [] e = e
      con_count seen k (c ∷ cs) e = con_count (after_symbol seen) (suc k) cs (more seen.symbols e)
        where
          more : (n : ℕ) → n ≡ k → n + 1 ≡ suc k
          more n q = omega arith

      seen_count : (seen : Seen) (k : ℕ) (ss : List SortRow) → seen.symbols ≡ k → (sorts_seen seen ss).symbols ≡ past_all k ss
      seen_count seen k [] e = e
      seen_count seen k (s ∷ ss) e = seen_count (cons_seen (after_sort seen) s.cons) (Rattle.law_typing.proofs.Blocks.past k s.cons) ss (con_count (after_sort seen) k s.cons e)

  each_symbol : (f : SymId) (symbol : Sym) → symbol_at parts f ≡ Some symbol → IsSymbol parts f symbol
  each_symbol f symbol e =
      let all = all_syms text parts nothing_seen l.sorts (fun_syms text l.version l.funs (tail_lines l)) x.states.declares (rows_placed text parts l x.states)
      x.good.sorts x.spelled.sorts syms.syms in
      let plain : 0 + f.0 ≡ f.0 = omega arith in
      subst (λ n. IsSymbol parts (record { 0 = n }) symbol) plain
      (sym_found parts 0 (con_syms text.sorts 0 l.sorts ++ fun_syms text l.version l.funs (tail_lines l)) all f.0 symbol (sym (ap (λ z. slice_get z f.0) x.states.symbols) ∙ e))

  valued : (sort : SortId) → IsDeclared parts sort → has_value text sort ≡ true
  valued sort declared =
      let within : sort.0 < length parts.sort_names = search (rules, declared) in
      let n : sort.0 < length l.sorts = subst (λ z. sort.0 < z) sort_count within in
      let zero_plus : sort.0 ≡ 0 + sort.0 = omega arith in
      valued_at text nothing_seen l.sorts x.good.sorts sort.0 sort.0 zero_plus n

  has_values : (sort : SortId) → IsDeclared parts sort → (v : Tree) × IsValueOf parts sort v
  has_values sort declared = low_value text parts x.states.declares each_symbol (length text.sorts + 1) sort declared (valued sort declared)

  sort_names_ok : AreNames parts.sort_names
  sort_names_ok = record {
    spelled = subst (Each (λ name. IsTrue (is_name name))) (sym x.states.sorts ∙ x.states.declares.sorts)
        (each_mapped (λ name. IsTrue (is_name name)) (λ (s : SortRow). s.name) l.sorts
        (each_map SortSpelled (λ s. IsTrue (is_name s.name)) (λ s h. h.name) l.sorts x.spelled.sorts));
    distinct = sorts_distinct;
  }

  symbol_names_ok : AreNames parts.symbol_names
  symbol_names_ok = record {
    spelled = subst (Each (λ name. IsTrue (is_name name))) (sym x.states.names ∙ x.states.declares.names)
        (each_both (λ name. IsTrue (is_name name)) (per_con (λ c. c.name) l.sorts) (map (λ (r : FunRow). r.name) l.funs)
        (each_con (λ name. IsTrue (is_name name)) (λ c. c.name) l.sorts (each_map SortSpelled (λ (s : SortRow). Each (λ (c : ConRow). IsTrue (is_name c.name)) s.cons)
        (λ s h. each_map ConSpelled (λ c. IsTrue (is_name c.name)) (λ c g. g.name) s.cons h.cons) l.sorts x.spelled.sorts))
        (each_mapped (λ name. IsTrue (is_name name)) (λ (r : FunRow). r.name) l.funs (each_map FunSpelled (λ r. IsTrue (is_name r.name)) (λ r h. h.name) l.funs x.spelled.funs)));
    distinct = names_distinct;
  }

  explored : ExploredOk text parts [] l.explored
  explored = explored_ok text parts x.states.declares [] l.explored x.good.explored

  background : BackgroundOk text parts l.background
  background = background_ok text parts x.states.declares l.background x.good.background x.spelled.background

  same_widths : text.widths ≡ parts.settings.width
  same_widths = x.states.text_widths ∙ sym x.states.width

  some_pool : (ps : List (List Rattle.law_typing.proofs.Laid.ValuesRow)) → HasPools (given ps) → 1 ≤ length ps
  some_pool [] h = absurd h
  some_pool (p ∷ ps) h = omega arith

  rule_ok : (ps : PoolRows) → EndsGood text ps → EndsSpelled ps → HasPools ps → IsPoolRule parts (stated_pool_rule text ps)
  rule_ok (given ps) good spelled has =
      let ok = pools_ok text parts x.states.declares same_widths 0 ps good spelled in
      let n : length (map (map (stated_row text)) ps) ≡ length ps = length-map ps (map (stated_row text)) in
      let low = some_pool ps has in
      let high = pools_few text 0 ps good (omega arith) in
      record { pools_range = subst (IsBetween 1 16) (sym n) (low, omega (arith, high)); each_pool = ok.each }
  rule_ok (seeded s h c) good spelled has =
      let low : h ≤ 4294967295 = omega (arith, good.0.1) in
      let few : c ≤ 4294967295 = omega (arith, good.1.1) in
      record {
        seed_range = spelled;
        height_range = subst (IsBetween 1 16) (sym (short_is h low)) good.0;
        count_range = subst (IsBetween 1 16) (sym (short_is c few)) good.1;
        high_enough = λ sort declared. subst (λ n. IsTrue (Rattle.law_sig.specs.WellFormed.is_within_height parts n sort)) (sym (short_is h low))
            (low_within text parts x.states.declares each_symbol h sort declared (high sort declared));
      }
    where
      high : (sort : SortId) → IsDeclared parts sort → is_low text h sort ≡ true
      high sort declared =
          let within : sort.0 < length parts.sort_names = search (rules, declared) in
          let n : sort.0 < length text.sorts = subst (λ z. sort.0 < length z) (sym x.states.declares.sorts) within in
          let zero_plus : sort.0 ≡ 0 + sort.0 = omega arith in
          not_low (has_value text sort) (is_low text h sort) (low_enough text h 0 (length text.sorts) good.2 sort.0 sort.0 zero_plus n) (valued sort declared)

  settings_ok : AreSettings parts
  settings_ok =
      let ranges = sort_ranges text nothing_seen l.sorts x.good.sorts in
      record {
        vars = record {
          one_each = ap length x.states.vars ∙ length-map l.sorts (λ (s : SortRow). s.vars) ∙ sym sort_count;
          in_range = subst (Each (IsBetween 0 8)) (sym x.states.vars) (each_mapped (IsBetween 0 8) (λ (s : SortRow). s.vars) l.sorts
              (each_map (λ (s : SortRow). IsBetween 0 8 s.vars × IsBetween 1 16 s.width × Each (λ (c : ConRow). IsBetween 1 4 c.weight) s.cons) (λ s. IsBetween 0 8 s.vars) (λ s h. h.0) l.sorts ranges));
        };
        size = subst (IsBetween 1 32) (sym x.states.size) x.good.start.size;
        width = record {
          one_each = ap length x.states.width ∙ length-map l.sorts (λ (s : SortRow). s.width) ∙ sym sort_count;
          in_range = subst (Each (IsBetween 1 16)) (sym x.states.width) (each_mapped (IsBetween 1 16) (λ (s : SortRow). s.width) l.sorts
              (each_map (λ (s : SortRow). IsBetween 0 8 s.vars × IsBetween 1 16 s.width × Each (λ (c : ConRow). IsBetween 1 4 c.weight) s.cons) (λ s. IsBetween 1 16 s.width) (λ s h. h.1) l.sorts ranges));
        };
        budget = subst (IsBetween 1 1000000) (sym x.states.budget) x.good.start.budget;
        pairs = subst (λ n. n ≤ 4096) (sym x.states.pairs) x.good.start.pairs.1;
        weights = record {
          one_each = ap length x.states.weights ∙ as_many (λ c. c.weight) (λ r. r.weight) text l.version l.sorts l.funs (tail_lines l) ∙ ap length (sym x.states.symbols);
          in_range = subst (Each (IsBetween 1 4)) (sym x.states.weights)
              (each_both (IsBetween 1 4) (per_con (λ c. c.weight) l.sorts) (map (λ (r : FunRow). r.weight) l.funs)
              (each_con (IsBetween 1 4) (λ c. c.weight) l.sorts
              (each_map (λ (s : SortRow). IsBetween 0 8 s.vars × IsBetween 1 16 s.width × Each (λ (c : ConRow). IsBetween 1 4 c.weight) s.cons)
              (λ (s : SortRow). Each (λ (c : ConRow). IsBetween 1 4 c.weight) s.cons) (λ s h. h.2) l.sorts ranges))
              (each_mapped (IsBetween 1 4) (λ (r : FunRow). r.weight) l.funs (fun_ranges text l.version (sorts_seen nothing_seen l.sorts) l.funs (tail_lines l) x.good.funs)));
        };
        explored_declared = subst (Each (λ (f : SymId). f.0 < length parts.symbols)) (sym x.states.explored)
            (subst (λ n. Each (λ (f : SymId). f.0 < n) (map (symbol_id text) l.explored)) one_each (ids_within text parts l.explored explored.each));
        explored_distinct = subst AreDistinct (sym x.states.explored) (ids_distinct text parts l.explored explored);
        background = subst (Each (Rattle.law_sig.specs.WellFormed.IsBackground parts)) (sym x.states.background) background.each;
        pools = subst (IsPoolRule parts) (sym x.states.pools) (rule_ok l.pools x.good.ends x.spelled.ends x.has_pools);
      }

  pub formed : IsWellFormed parts
  formed = record {
    sorts_range = (subst (λ n. 1 ≤ n) (sym sort_count) (some_sort l.sorts x.has_sorts), few_sorts);
    sort_names = sort_names_ok;
    every_sort_has_a_value = has_values;
    symbols_range = few_symbols;
    one_name_each = one_each;
    symbol_names = symbol_names_ok;
    symbols = each_symbol;
    settings = settings_ok;
  }

  -- The lines again

  all_ids : sort_ids parts ≡ nums sort_no 0 l.sorts
  all_ids = ap (λ n. first_of n (λ i. record { 0 = i })) sort_count ∙ first_nums (λ n. record { 0 = n }) sort_no 0 l.sorts zero_plus
    where
      zero_plus : (i : ℕ) → ◌≡◌ {A = SortId} (record { 0 = i }) (sort_no (0 + i))
      zero_plus i = let e : i ≡ 0 + i = omega arith in ap sort_no e

  rule_again : (ps : PoolRows) → EndsGood text ps → pools_line (stated_pool_rule text ps) ≡ rule_line ps
  rule_again (given ps) good = refl
  rule_again (seeded s h c) good =
      let low : h ≤ 4294967295 = omega (arith, good.0.1) in
      let few : c ≤ 4294967295 = omega (arith, good.1.1) in
      ap₂ (line.PoolsSeed s) (short_is h low) (short_is c few)

  start_again : (rest : List RawLine) → start_then l.version l.size l.budget l.pairs l.pools rest ≡ settings_lines l.version parts ++ rest
  start_again rest = start_laid l.version l.size l.budget l.pairs l.pools rest
      ∙ ap₂ (λ s b. start l.version s b l.pairs (rule_line l.pools) rest) (sym x.states.size) (sym x.states.budget)
      ∙ ap₂ (λ p q. start l.version parts.settings.size parts.settings.budget p q rest) (sym x.states.pairs) (sym (ap pools_line x.states.pools ∙ rule_again l.pools x.good.ends))
      ∙ start_typed l.version parts rest

  ends_again : (ps : PoolRows) → EndsGood text ps → EndsSpelled ps → pool_lines ps ≡ given_lines parts (stated_pool_rule text ps) ++ line.End ∷ []
  ends_again (given ps) good spelled = (pools_ok text parts x.states.declares same_widths 0 ps good spelled).written (line.End ∷ [])
  ends_again (seeded s h c) good spelled = refl

  tail_again : tail_lines l ≡ line.Explore (map (symbol_name parts) parts.settings.explored) ∷ (map (background_line parts) parts.settings.background
      ++ (given_lines parts parts.settings.pools ++ line.End ∷ []))
  tail_again = ap₂ (λ n z. line.Explore n ∷ z) (sym (ap (map (symbol_name parts)) x.states.explored ∙ ids_named text parts l.explored explored.each))
      (background.written (pool_lines l.pools) ∙ ap₂ (λ b z. map (background_line parts) b ++ z) (sym x.states.background)
      (ends_again l.pools x.good.ends x.spelled.ends ∙ ap (λ p. given_lines parts p ++ line.End ∷ []) (sym x.states.pools)))

  fits : (v : Version) → Each (FitsSortRow v) l.sorts → Each (FitsFun v) l.funs → FitsVersion v parts
  fits (first vars width) h k = (
    subst (Each (λ n. n ≡ vars)) (sym x.states.vars) (each_mapped (λ n. n ≡ vars) (λ (s : SortRow). s.vars) l.sorts
        (each_map (FitsSortRow (first vars width)) (λ s. s.vars ≡ vars) (λ s q. q.0.0) l.sorts h)),
    subst (Each (λ n. n ≡ width)) (sym x.states.width) (each_mapped (λ n. n ≡ width) (λ (s : SortRow). s.width) l.sorts
        (each_map (FitsSortRow (first vars width)) (λ s. s.width ≡ width) (λ s q. q.0.1) l.sorts h)),
    subst (Each (λ n. n ≡ 1)) (sym x.states.weights) (each_both (λ n. n ≡ 1) (per_con (λ c. c.weight) l.sorts) (map (λ (r : FunRow). r.weight) l.funs)
        (each_con (λ n. n ≡ 1) (λ c. c.weight) l.sorts (each_map (FitsSortRow (first vars width)) (λ (s : SortRow). Each (λ (c : ConRow). c.weight ≡ 1) s.cons) (λ s q. q.1) l.sorts h))
        (each_mapped (λ n. n ≡ 1) (λ (r : FunRow). r.weight) l.funs k)),
  )
  fits second h k =
      subst (Each (λ n. n ≡ 1)) (sym x.states.weights) (each_both (λ n. n ≡ 1) (per_con (λ c. c.weight) l.sorts) (map (λ (r : FunRow). r.weight) l.funs)
      (each_con (λ n. n ≡ 1) (λ c. c.weight) l.sorts (each_map (FitsSortRow second) (λ (s : SortRow). Each (λ (c : ConRow). c.weight ≡ 1) s.cons) (λ s q. q.1) l.sorts h))
      (each_mapped (λ n. n ≡ 1) (λ (r : FunRow). r.weight) l.funs k))
  fits third h k = tt

  pub typed_as : IsTypedAs (layout_lines l) parts
  typed_as = record {
    version = l.version;
    well_formed = formed;
    fits = fits l.version x.sorts_fit x.funs_fit;
    numbered = are_numbered text parts l.version l.sorts l.funs (tail_lines l) (blocks_placed text parts l x.states) all_ids x.states.symbols;
    functions = funs_lines l.version l.funs;
    function_lines = subst (λ z. Rattle.law_typing.specs.Typed.AreFunLines l.version parts 0 z (funs_lines l.version l.funs)) (sym x.states.symbols)
        (skip_sorts l.version parts text.sorts 0 0 l.sorts (fun_syms text l.version l.funs (tail_lines l)) (funs_lines l.version l.funs) syms.lines);
    lines_are = start_again (declared_lines l) ∙ ap (λ z. settings_lines l.version parts ++ z)
        (sorts_again text parts l.version nothing_seen 0 0 l.sorts (funs_then l.version l.funs (tail_lines l)) x.states.declares (rows_placed text parts l x.states)
        (placed text parts l x.states).cons (blocks_placed text parts l x.states) x.good.sorts
        ∙ ap₂ (λ i z. joined (map (sort_block l.version parts) i) ++ z) (sym all_ids) (funs_split l.version l.funs (tail_lines l) ∙ ap (λ z. funs_lines l.version l.funs ++ z) tail_again));
  }

-- what the lines of a text state, where none shows a fault
pub sound : (lines : List RawLine) → IsRawSig lines → first_fault lines ≡ None → IsTypedAs lines (stated (whole lines) lines)
sound lines raw none =
    let laid = laid_out lines raw in
    subst (λ z. IsTypedAs z (stated (whole z) z)) (sym laid.1.lines_are)
    (here laid.0 laid.1 (subst (λ z. first_fault z ≡ None) laid.1.lines_are none) (subst (AllByRecursion (Rattle.law_lines.specs.Lines.IsLine Rattle.law_lines.specs.declared.want.Bounds.TheVariants.Kept)) laid.1.lines_are raw.each))
  where
    here : (l : Layout) → IsLayout lines l → first_fault (layout_lines l) ≡ None → AllByRecursion (Rattle.law_lines.specs.Lines.IsLine Rattle.law_lines.specs.declared.want.Bounds.TheVariants.Kept) (layout_lines l)
        → IsTypedAs (layout_lines l) (stated (whole (layout_lines l)) (layout_lines l))
    here l is none each =
        let good = all_good (whole (layout_lines l)) l is.sorts_fit is.funs_fit (no_faults (whole (layout_lines l)) nothing_seen 1 (layout_lines l) none) in
        typed_as (whole (layout_lines l)) (stated (whole (layout_lines l)) (layout_lines l)) l (record {
          states = states_all l is.sorts_fit is.funs_fit good;
          good = good;
          spelled = all_spelled l each;
          has_sorts = is.has_sorts;
          has_pools = is.has_pools;
          sorts_fit = is.sorts_fit;
          funs_fit = is.funs_fit;
        })
