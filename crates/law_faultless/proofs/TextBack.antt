-- The lines of a signature show no fault.
use Rattle.std.proofs.Common.{◌≡◌, ◌≢◌, ℕ, zero, suc, ◌+◌, ◌<◌, ◌≤◌, List, [], ◌∷◌, ◌++◌, ◌⊎◌, inl, inr, map, length, Bool, true, false, not, ◌&&◌, ◌||◌, nat_le, eq-eqb, is_some, Option, Some, None, Err, slice_get, slice_index_or, option_map, rules, arith, add-one, append_assoc, refl, sym, ap, ap₂, ◌∙◌, subst}
use Rattle.std.specs.Option.{option_or}
use Rattle.std.proofs.lemmas.List.{length-map, map-append}
use Rattle.std.proofs.lemmas.Option.{slice_get_within, slice_get-get_or}
use Rattle.law_sig.specs.Lists.{In, Each, AreDistinct}
use Rattle.law_sig.specs.Lists.In.{here, there}
use Rattle.law_sig.specs.Trees.{joined, node_count, depth}
use Rattle.law_sig.specs.Tests.{first_of}
use Rattle.law_sig.specs.Signature.{symbol_at, constructors, vars_at, width_at, sort_of}
use Rattle.law_sig.specs.WellFormed.{IsBetween, IsDeclared, IsWritable, IsBackground, IsValueOf, AreValues, IsPoolFrom, IsPool, IsPoolRule, IsWellFormed}
use Rattle.law_sig.specs.declared.tree.SortId.{SortId}
use Rattle.law_sig.specs.declared.tree.SymId.{SymId}
use Rattle.law_sig.specs.declared.tree.Tree.{Tree}
use Rattle.law_sig.specs.declared.tree.Tree.TheVariants.{Var, App}
use Rattle.law_sig.specs.declared.parts.Sym.{Sym}
use Rattle.law_sig.specs.declared.parts.Equation.{Equation}
use Rattle.law_sig.specs.declared.parts.PoolRule.{PoolRule}
use Rattle.law_sig.specs.declared.parts.PoolRule.TheVariants as rule
use Rattle.law_sig.specs.declared.parts.SigParts.{SigParts}
use Rattle.law_laws.proofs.TreeFacts.{tree_induct, fold-Var, fold-App}
use Rattle.law_laws.proofs.BodyFacts.{some_is, none_is}
use Rattle.law_laws.proofs.ListFacts.{in_split, in_rest, in_none}
use Rattle.law_laws.proofs.Sorts.{sorted_app, sorted_var, same_sort_itself}
use Rattle.law_lines.specs.declared.raw.RawHead.{RawHead}
use Rattle.law_lines.specs.declared.raw.RawHead.TheVariants as head
use Rattle.law_lines.specs.declared.raw.RawTerm.{RawTerm}
use Rattle.law_lines.specs.declared.raw.RawTerm.TheOpen.{RawTerm-F}
use Rattle.law_lines.specs.declared.raw.RawTerm.TheViews.{out-roll-RawTerm}
use Rattle.law_lines.specs.declared.raw.RawLine.{RawLine}
use Rattle.law_lines.specs.declared.raw.RawLine.TheVariants as line
use Rattle.law_typing.specs.Names.{number_of}
use Rattle.law_typing.specs.Naming.{sort_name, symbol_name, raw_term, named_term, name_step}
use Rattle.law_typing.specs.Declarations.{whole, is_low, has_value, sort_names, symbol_names}
use Rattle.law_typing.specs.TermFaults.{fault_if, mismatch, term_fault}
use Rattle.law_typing.specs.LineFaults.{nothing_seen, after_pool, after_values, out_of, some_too_low, explored_fault, explored_faults, side_scope, value_scope, root_sort, head_sort, name_sort, variable_sort, sort_given, sides_mismatch, values_count, is_width, each_value_fault, values_faults, faults_from, first_fault, TellsFault}
use Rattle.law_typing.specs.Typed.{Version, FitsVersion, IsTypedAs, StatesNothing, settings_lines, pools_line, sort_ids, sort_block, functions_from, background_line, values_lines, pools_lines, given_lines}
use Rattle.law_typing.specs.Typed.Version.{first, second, third}
use Rattle.law_typing.specs.declared.errors.TypeErr.{TypeErr}
use Rattle.law_typing.specs.declared.errors.TypeErr.TheVariants as err
use Rattle.law_typing.specs.declared.errors.TypeKind.{TypeKind}
use Rattle.law_typing.specs.declared.errors.TypeKind.TheVariants as kind
use Rattle.law_typing.specs.declared.seen.Seen.{Seen}
use Rattle.law_typing.specs.declared.whole.Whole.{Whole}
use Rattle.law_typing.proofs.TreeOfFacts.{number_again}
use Rattle.law_typing.proofs.SideFacts.{Declares, headed, headed_result, in_text, side_passes}
use Rattle.law_typing.proofs.Laid.{SortRow, SidesRow, ValuesRow, PoolRows, Layout, sorts_then, funs_then, background_then, values_then, pools_then, pool_lines, rule_line, start_then, tail_lines, declared_lines, layout_lines, FitsSort, FitsCon, FitsSortRow}
use Rattle.law_typing.proofs.Laid.PoolRows.{given, seeded}
use Rattle.law_typing.proofs.Gathered.{told_sorts, told_names}
use Rattle.law_typing.proofs.Told.{told_vars, told_widths, told_symbols, con_syms, fun_syms}
use Rattle.law_typing.proofs.Passed.{NoFaults, faults_none, sorts_seen, funs_seen, funs_pools, sorts_pools}
use Rattle.law_typing.proofs.States.{headed_symbols}
use Rattle.law_typing.proofs.Blocks.{sort_no, sym_no, nums, first_nums}
use Rattle.law_faultless.proofs.BodyComplete.{both_none, no_fault, value_passes}
use Rattle.law_faultless.proofs.HeightComplete.{within_low}
use Rattle.law_faultless.proofs.LaidBack.{con_row, sort_row, sorts_back, weight_fits, FunsBack, funs_back}
use Rattle.law_faultless.proofs.DeclaresBack.{by_places, map_map, per_con_back, fun_names_back, blocks_again, funs_again, somes_same}
use Rattle.law_faultless.proofs.Fine.{Counts, out_none, not_numbered, counts_sorts, sorts_fine, funs_fine}

-- The rest of the lines in their parts

abbrev pub sides_row : SigParts → Equation → SidesRow
sides_row parts e = record { left = named_term parts e.left; right = named_term parts e.right }

abbrev pub values_rows : SigParts → ℕ → List (List Tree) → List ValuesRow
values_rows parts k [] = []
values_rows parts k (vs ∷ pool) = record { sort = sort_name parts (record { 0 = k }); values = map (named_term parts) vs } ∷ values_rows parts (suc k) pool

abbrev pub pool_rows : SigParts → PoolRule → PoolRows
pool_rows parts (rule.Given pools) = given (map (values_rows parts 0) pools)
pool_rows parts (rule.Seeded s h c) = seeded s h c

sides_back : (parts : SigParts) (es : List Equation) (rest : List RawLine) → map (background_line parts) es ++ rest ≡ background_then (map (sides_row parts) es) rest
sides_back parts [] rest = refl
sides_back parts (e ∷ es) rest = ap (λ z. background_line parts e ∷ z) (sides_back parts es rest)

values_back : (parts : SigParts) (k : ℕ) (pool : List (List Tree)) (rest : List RawLine) → values_lines parts k pool ++ rest ≡ values_then (values_rows parts k pool) rest
values_back parts k [] rest = refl
values_back parts k (vs ∷ pool) rest = ap (λ z. line.Values (sort_name parts (record { 0 = k })) (map (named_term parts) vs) ∷ z) (values_back parts (suc k) pool rest)

pools_back : (parts : SigParts) (pools : List (List (List Tree))) (rest : List RawLine) → pools_lines parts pools ++ rest ≡ pools_then (map (values_rows parts 0) pools) rest
pools_back parts [] rest = refl
pools_back parts (p ∷ pools) rest = ap (λ z. line.Pool ∷ z) (append_assoc (values_lines parts 0 p) (pools_lines parts pools) rest
    ∙ values_back parts 0 p (pools_lines parts pools ++ rest) ∙ ap (values_then (values_rows parts 0 p)) (pools_back parts pools rest))

ends_back : (parts : SigParts) (r : PoolRule) → given_lines parts r ++ line.End ∷ [] ≡ pool_lines (pool_rows parts r)
ends_back parts (rule.Given pools) = pools_back parts pools (line.End ∷ [])
ends_back parts (rule.Seeded s h c) = refl

rule_back : (parts : SigParts) (r : PoolRule) → pools_line r ≡ rule_line (pool_rows parts r)
rule_back parts (rule.Given pools) = refl
rule_back parts (rule.Seeded s h c) = refl

start_back : (v : Version) (parts : SigParts) (rest : List RawLine)
    → settings_lines v parts ++ rest ≡ start_then v parts.settings.size parts.settings.budget parts.settings.pairs (pool_rows parts parts.settings.pools) rest
start_back (first vars width) parts rest = ap (λ z. line.Head ∷ line.Vars vars ∷ line.Size parts.settings.size ∷ line.Width width ∷ line.Budget parts.settings.budget
    ∷ line.Pairs parts.settings.pairs ∷ z ∷ rest) (rule_back parts parts.settings.pools)
start_back second parts rest = ap (λ z. line.Head2 ∷ line.Size parts.settings.size ∷ line.Budget parts.settings.budget ∷ line.Pairs parts.settings.pairs ∷ z ∷ rest)
    (rule_back parts parts.settings.pools)
start_back third parts rest = ap (λ z. line.Head3 ∷ line.Size parts.settings.size ∷ line.Budget parts.settings.budget ∷ line.Pairs parts.settings.pairs ∷ z ∷ rest)
    (rule_back parts parts.settings.pools)

-- Numbers

counts_nums : {B : Type 0} (k : ℕ) (xs : List B) → Counts k (nums sym_no k xs)
counts_nums k [] = tt
counts_nums k (x ∷ xs) = (refl, subst (λ n. Counts n (nums sym_no (suc k) xs)) (sym (add-one k)) (counts_nums (suc k) xs))

pub zero_plus : (i : ℕ) → i ≡ 0 + i
zero_plus i = omega arith

-- The sort of what a term begins with

root_of : (text : Whole) (parts : SigParts) → Declares text parts → IsWellFormed parts → (t : Tree) (sort : SortId) → sort_of parts t ≡ Some sort → root_sort text (named_term parts t) ≡ Some sort
root_of text parts declares formed = tree_induct (λ t. (sort : SortId) → sort_of parts t ≡ Some sort → root_sort text (named_term parts t) ≡ Some sort) at_var at_app
  where
    root_raw : (h : RawHead) (args : List RawTerm) → root_sort text (raw_term h args) ≡ head_sort text h
    root_raw h args = let l : RawTerm-F RawTerm = record { head = h; args = args } in ap (λ (z : RawTerm-F RawTerm). head_sort text z.head) (out-roll-RawTerm l)

    at_var : (s : SortId) (i : ℕ) (sort : SortId) → sort_of parts (Var s i) ≡ Some sort → root_sort text (named_term parts (Var s i)) ≡ Some sort
    at_var s i sort e =
        let (declared, same) = sorted_var parts s i sort e in
        let within : s.0 < length parts.sort_names = search (rules, declared) in
        let number : number_of text.sorts (sort_name parts s) ≡ Some s.0 =
        ap (λ names. number_of names (sort_name parts s)) declares.sorts ∙ number_again parts.sort_names s.0 formed.sort_names.distinct within in
        ap (root_sort text) (fold-Var RawTerm (name_step parts) s i) ∙ root_raw (head.Var (sort_name parts s) i) [] ∙ ap variable_sort number ∙ ap Some same

    at_app : (f : SymId) (args : List Tree) → Each (λ t. (sort : SortId) → sort_of parts t ≡ Some sort → root_sort text (named_term parts t) ≡ Some sort) args
        → (sort : SortId) → sort_of parts (App f args) ≡ Some sort → root_sort text (named_term parts (App f args)) ≡ Some sort
    at_app f args have sort e =
        let a = sorted_app parts f args sort e in
        let within : f.0 < length parts.symbol_names = subst (λ n. f.0 < n) (sym formed.one_name_each) (slice_get_within parts.symbols f.0 a.symbol a.declared) in
        let number : number_of text.names (symbol_name parts f) ≡ Some f.0 =
        ap (λ names. number_of names (symbol_name parts f)) declares.names ∙ number_again parts.symbol_names f.0 formed.symbol_names.distinct within in
        ap (root_sort text) (fold-App RawTerm (name_step parts) f args) ∙ root_raw (head.Name (symbol_name parts f)) (map (named_term parts) args)
        ∙ ap (name_sort text) number ∙ ap sort_given (in_text text parts declares f.0 a.symbol a.declared) ∙ ap Some (headed_result a.symbol ∙ a.result)

module _ (text : Whole) (parts : SigParts) (formed : IsWellFormed parts) (declares : Declares text parts) (widths : text.widths ≡ parts.settings.width) where
  -- Explored names

  name_number : (f : SymId) → f.0 < length parts.symbols → number_of text.names (symbol_name parts f) ≡ Some f.0
  name_number f l =
      let within : f.0 < length parts.symbol_names = subst (λ n. f.0 < n) (sym formed.one_name_each) l in
      ap (λ names. number_of names (symbol_name parts f)) declares.names ∙ number_again parts.symbol_names f.0 formed.symbol_names.distinct within

  pub explored_fine : (before fs : List SymId) → Each (λ (f : SymId). f.0 < length parts.symbols) fs → ((f : SymId) → In f before → f.0 < length parts.symbols)
      → ((f : SymId) → In f before → Each (λ g. f ≢ g) fs) → AreDistinct fs → explored_faults text (map (symbol_name parts) before) (map (symbol_name parts) fs) ≡ None
  explored_fine before [] within low apart d = refl
  explored_fine before (f ∷ fs) within low apart d =
      both_none (explored_fault text (map (symbol_name parts) before) (symbol_name parts f)) (explored_faults text (map (symbol_name parts) before ++ symbol_name parts f ∷ []) (map (symbol_name parts) fs))
      (both_none (fault_if (not (is_some (number_of text.names (symbol_name parts f)))) kind.UnknownName) _ (no_fault _ kind.UnknownName (ap (λ o. not (is_some o)) (name_number f within.0)))
      (no_fault _ kind.NameTwice (not_numbered (map (symbol_name parts) before) (symbol_name parts f) (λ j e. by (from_get before j (symbol_name parts f) e)))))
      (ap (λ z. explored_faults text z (map (symbol_name parts) fs)) (sym (map-append (symbol_name parts) before (f ∷ [])))
      ∙ explored_fine (before ++ f ∷ []) fs within.1 (λ g at. lower (in_split before (f ∷ []) at))
      (λ g at. further g (in_split before (f ∷ []) at)) d.1)
    where
      from_get : (xs : List SymId) (j : ℕ) (n : List ℕ) → slice_get (map (symbol_name parts) xs) j ≡ Some n → (g : SymId) × In g xs × (symbol_name parts g ≡ n)
      from_get [] j n e = none_is n e
      from_get (x ∷ xs) zero n e = (x, here, some_is (symbol_name parts x) n e)
      from_get (x ∷ xs) (suc j) n e = let r = from_get xs j n e in (r.0, there r.1, r.2)

      by : (g : SymId) × In g before × (symbol_name parts g ≡ symbol_name parts f) → ⊥
      by r = (apart r.0 r.1).0 (ap (λ n. record { 0 = n }) (some_is r.0.0 f.0 (sym (name_number r.0 (low r.0 r.1)) ∙ ap (number_of text.names) r.2 ∙ name_number f within.0)))

      lower : {g : SymId} → (In g before) ⊎ In g (f ∷ []) → g.0 < length parts.symbols
      lower {g} (inl h) = low g h
      lower {g} (inr h) = last g (in_rest h)
        where
          last : (g : SymId) → (g ≡ f) ⊎ In g [] → g.0 < length parts.symbols
          last g (inl e) = subst (λ (z : SymId). z.0 < length parts.symbols) (sym e) within.0
          last g (inr h) = in_none h

      further : (g : SymId) → (In g before) ⊎ In g (f ∷ []) → Each (λ z. g ≢ z) fs
      further g (inl h) = (apart g h).1
      further g (inr h) = last g (in_rest h)
        where
          last : (g : SymId) → (g ≡ f) ⊎ In g [] → Each (λ z. g ≢ z) fs
          last g (inl e) = subst (λ q. Each (λ z. q ≢ z) fs) (sym e) d.0
          last g (inr h) = in_none h

  -- Background

  pub sides_fine : (seen : Seen) (es : List Equation) (rest : List RawLine) → Each (IsBackground parts) es → NoFaults text seen rest → NoFaults text seen (background_then (map (sides_row parts) es) rest)
  sides_fine seen [] rest h k = k
  sides_fine seen (e ∷ es) rest h k =
      let b = h.0 in (
        both_none (term_fault text side_scope None (named_term parts e.left)) _ (side_passes text parts declares formed e.left None b.sort b.left_side.sorted b.left_side.variables refl)
            (both_none (term_fault text side_scope None (named_term parts e.right)) _ (side_passes text parts declares formed e.right None b.sort b.right_side.sorted b.right_side.variables refl)
            (ap₂ sides_mismatch (root_of text parts declares formed e.left b.sort b.left_side.sorted) (root_of text parts declares formed e.right b.sort b.right_side.sorted)
            ∙ no_fault _ (kind.SortMismatch b.sort b.sort) (ap not (same_sort_itself b.sort)))),
        sides_fine seen es rest h.1 k,
      )

  -- Pools

  each_value_none : (sort : SortId) (vs : List Tree) → Each (λ v. IsValueOf parts sort v × IsWritable (node_count v) (depth v)) vs → each_value_fault text sort (map (named_term parts) vs) ≡ None
  each_value_none sort [] h = refl
  each_value_none sort (v ∷ vs) h = both_none (term_fault text value_scope (Some sort) (named_term parts v)) (each_value_fault text sort (map (named_term parts) vs))
      (value_passes text parts declares formed v sort h.0.0.sorted h.0.0.made) (each_value_none sort vs h.1)

  abbrev rows_seen : Seen → List ValuesRow → Seen
  rows_seen seen [] = seen
  rows_seen seen (v ∷ vs) = rows_seen (after_values seen) vs

  row_fine : (seen : Seen) (k : ℕ) (vs : List Tree) → k < length parts.sort_names → k ≡ seen.values → AreValues parts (record { 0 = k }) vs
      → values_faults text seen (map (named_term parts) vs) (number_of text.sorts (sort_name parts (record { 0 = k }))) ≡ None
  row_fine seen k vs within e h =
      let number : number_of text.sorts (sort_name parts (record { 0 = k })) ≡ Some k =
      ap (λ names. number_of names (sort_name parts (record { 0 = k }))) declares.sorts ∙ number_again parts.sort_names k formed.sort_names.distinct within in
      let in_widths : k < length parts.settings.width = subst (λ n. k < n) (sym formed.settings.width.one_each) within in
      let width : slice_get text.widths k ≡ Some (width_at parts (record { 0 = k })) = ap (λ l. slice_get l k) widths ∙ slice_get-get_or parts.settings.width k 1 in_widths in
      let count : length (map (named_term parts) vs) ≡ width_at parts (record { 0 = k }) = length-map vs (named_term parts) ∙ h.count in
      ap (values_faults text seen (map (named_term parts) vs)) number
      ∙ both_none (mismatch (Some (record { 0 = seen.values })) (record { 0 = k })) _
      (no_fault _ (kind.SortMismatch (record { 0 = seen.values }) (record { 0 = k })) (ap not (eq-eqb seen.values k (sym e))))
      (both_none (fault_if (not (is_width (length (map (named_term parts) vs)) (slice_get text.widths k))) kind.Arity) _
      (no_fault _ kind.Arity (ap (λ o. not (is_width (length (map (named_term parts) vs)) o)) width ∙ ap not (eq-eqb _ _ count)))
      (each_value_none (record { 0 = k }) vs h.each))

  rows_fine : (seen : Seen) (k : ℕ) (pool : List (List Tree)) (rest : List RawLine) → k ≡ seen.values → k + length pool ≤ length parts.sort_names → IsPoolFrom parts k pool
      → NoFaults text (rows_seen seen (values_rows parts k pool)) rest → NoFaults text seen (values_then (values_rows parts k pool) rest)
  rows_fine seen k [] rest e l h g = g
  rows_fine seen k (vs ∷ pool) rest e l h g =
      let within : k < length parts.sort_names = omega arith in
      let next : suc k ≡ seen.values + 1 = omega arith in
      let less : suc k + length pool ≤ length parts.sort_names = omega arith in
      (row_fine seen k vs within e h.0, rows_fine (after_values seen) (suc k) pool rest next less h.1 g)

  rows_pools : (seen : Seen) (vs : List ValuesRow) → (rows_seen seen vs).pools ≡ seen.pools
  rows_pools seen [] = refl
  rows_pools seen (v ∷ vs) = rows_pools (after_values seen) vs

  rows_count : (k : ℕ) (pool : List (List Tree)) (rest : List RawLine) → values_count rest ≡ 0 → values_count (values_then (values_rows parts k pool) rest) ≡ length pool
  rows_count k [] rest e = e
  rows_count k (vs ∷ pool) rest e = let r = rows_count (suc k) pool rest e in omega arith

  no_values : (pools : List (List (List Tree))) → values_count (pools_then (map (values_rows parts 0) pools) (line.End ∷ [])) ≡ 0
  no_values [] = refl
  no_values (p ∷ pools) = refl

  pools_fine : (seen : Seen) (pools : List (List (List Tree))) → Each (IsPool parts) pools → seen.pools + length pools ≤ 16
      → NoFaults text seen (pools_then (map (values_rows parts 0) pools) (line.End ∷ []))
  pools_fine seen [] h l = (refl, tt)
  pools_fine seen (p ∷ pools) h l =
      let rest = pools_then (map (values_rows parts 0) pools) (line.End ∷ []) in
      let below : seen.pools < 16 = omega arith in
      let low : nat_le 16 seen.pools ≡ false = search (rules, below) in
      let count : values_count (values_then (values_rows parts 0 p) rest) ≡ length text.sorts = rows_count 0 p rest (no_values pools) ∙ h.0.sorts ∙ sym (ap length declares.sorts) in
      let fits : 0 + length p ≤ length parts.sort_names = at_most (length p) h.0.sorts in
      let same = rows_pools (after_pool seen) (values_rows parts 0 p) in
      let less : (seen.pools + 1) + length pools ≤ 16 = omega arith in (
        both_none (fault_if (nat_le 16 seen.pools) kind.SettingRange) _ (no_fault _ kind.SettingRange low)
            (no_fault _ kind.Arity (ap not (eq-eqb _ _ count))),
        rows_fine (after_pool seen) 0 p rest refl fits h.0.values
            (pools_fine (rows_seen (after_pool seen) (values_rows parts 0 p)) pools h.1 (subst (λ n. n + length pools ≤ 16) (sym same) less)),
      )
    where
      at_most : (n : ℕ) → n ≡ length parts.sort_names → 0 + n ≤ length parts.sort_names
      at_most n e = omega arith

  pub ends_fine : (seen : Seen) (r : PoolRule) → seen.pools ≡ 0 → IsPoolRule parts r → NoFaults text seen (pool_lines (pool_rows parts r))
  ends_fine seen (rule.Given pools) e h = pools_fine seen pools h.each_pool (few (length pools) seen.pools h.pools_range.1 e)
    where
      few : (n k : ℕ) → n ≤ 16 → k ≡ 0 → k + n ≤ 16
      few n k l q = omega arith
  ends_fine seen (rule.Seeded s h c) e k = (refl, tt)

  high_enough : (height from count : ℕ) → from + count ≤ length parts.sort_names
      → ((sort : SortId) → IsDeclared parts sort → is_low text height sort ≡ true) → some_too_low text height from count ≡ false
  high_enough height from zero l h = refl
  high_enough height from (suc count) l h =
      let within : from < length parts.sort_names = omega arith in
      let declared : IsDeclared parts (record { 0 = from }) = search (rules, within) in
      let less : (from + 1) + count ≤ length parts.sort_names = omega arith in
      ap₂ ◌||◌ (ap (λ b. has_value text (record { 0 = from }) && not b) (h (record { 0 = from }) declared) ∙ and_false (has_value text (record { 0 = from })))
      (high_enough height (from + 1) count less h)
    where
      and_false : (b : Bool) → (b && false) ≡ false
      and_false true = refl
      and_false false = refl

  pub rule_fine : (seen : Seen) (r : PoolRule) (rest : List RawLine) → IsPoolRule parts r → NoFaults text seen rest → NoFaults text seen (rule_line (pool_rows parts r) ∷ rest)
  rule_fine seen (rule.Given pools) rest h k = (refl, k)
  rule_fine seen (rule.Seeded s height c) rest h k =
      let count : length text.sorts ≡ length parts.sort_names = ap length declares.sorts in
      let all : 0 + length text.sorts ≤ length parts.sort_names = omega arith in (
        both_none (out_of 1 16 height) _ (out_none 1 16 height h.height_range) (both_none (out_of 1 16 c) _ (out_none 1 16 c h.count_range)
            (no_fault _ kind.SettingRange (high_enough height 0 (length text.sorts) all (λ sort declared. within_low text parts declares height sort (h.high_enough sort declared))))),
        k,
      )

-- The whole text

each_at : (P : ℕ → Type 0) (d : ℕ) (xs : List ℕ) (k : ℕ) → Each P xs → k < length xs → P (slice_index_or xs k d)
each_at P d [] k h l = absurd (omega arith)
each_at P d (x ∷ xs) zero h l = h.0
each_at P d (x ∷ xs) (suc k) h l = let m : k < length xs = omega arith in each_at P d xs k h.1 m

cons_fit : (v : Version) (parts : SigParts) → FitsVersion v parts → (cs : List SymId) → Each (FitsCon v) (map (con_row parts) cs)
cons_fit v parts fits [] = tt
cons_fit v parts fits (c ∷ cs) = (weight_fits v parts fits c, cons_fit v parts fits cs)

sort_fits : (v : Version) (parts : SigParts) → IsWellFormed parts → FitsVersion v parts → (m : ℕ) → m < length parts.sort_names → FitsSort v (sort_row parts (record { 0 = m }))
sort_fits (first vars width) parts formed fits m l = (
  each_at (λ n. n ≡ vars) 0 parts.settings.vars m fits.0 (subst (λ n. m < n) (sym formed.settings.vars.one_each) l),
  each_at (λ n. n ≡ width) 1 parts.settings.width m fits.1 (subst (λ n. m < n) (sym formed.settings.width.one_each) l),
)
sort_fits second parts formed fits m l = tt
sort_fits third parts formed fits m l = tt

rows_fit : (v : Version) (parts : SigParts) → IsWellFormed parts → FitsVersion v parts → (m : ℕ) (ns : List (List ℕ)) → m + length ns ≤ length parts.sort_names
    → Each (FitsSortRow v) (map (sort_row parts) (nums sort_no m ns))
rows_fit v parts formed fits m [] l = tt
rows_fit v parts formed fits m (n ∷ ns) l =
    let within : m < length parts.sort_names = omega arith in
    let less : suc m + length ns ≤ length parts.sort_names = omega arith in
    ((sort_fits v parts formed fits m within, cons_fit v parts fits (constructors parts (record { 0 = m }))), rows_fit v parts formed fits (suc m) ns less)

get_somes : (xs : List Sym) (k : ℕ) → option_map headed (slice_get xs k) ≡ slice_index_or (map Some (map headed xs)) k None
get_somes [] k = refl
get_somes (x ∷ xs) zero = refl
get_somes (x ∷ xs) (suc k) = get_somes xs k

setting_none : (low high n : ℕ) → IsBetween low high n → option_or (out_of low high n) None ≡ None
setting_none low high n h = both_none (out_of low high n) None (out_none low high n h) refl

module _ (lines : List RawLine) (parts : SigParts) (t : IsTypedAs lines parts) where
  abbrev ids : List SortId
  ids = nums sort_no 0 parts.sort_names

  pub ids_are : sort_ids parts ≡ nums sort_no 0 parts.sort_names
  ids_are = first_nums (λ n. record { 0 = n }) sort_no 0 parts.sort_names (λ i. ap sort_no (zero_plus i))

  pub by_number : (i : ℕ) (s : Sym) → slice_get parts.symbols i ≡ Some s → symbol_at parts (record { 0 = 0 + i }) ≡ Some s
  by_number i s e = ap (slice_get parts.symbols) (sym (zero_plus i)) ∙ e

  pub funs : FunsBack t.version parts 0 parts.symbols t.functions
  funs = funs_back t.version parts t.well_formed t.fits 0 parts.symbols t.functions by_number t.function_lines

  abbrev pub laid : Layout
  laid = record {
    version = t.version;
    size = parts.settings.size;
    budget = parts.settings.budget;
    pairs = parts.settings.pairs;
    sorts = map (sort_row parts) (nums sort_no 0 parts.sort_names);
    funs = funs.rows;
    explored = map (symbol_name parts) parts.settings.explored;
    background = map (sides_row parts) parts.settings.background;
    pools = pool_rows parts parts.settings.pools;
  }

  abbrev rest_lines : List RawLine
  rest_lines = line.Explore (map (symbol_name parts) parts.settings.explored) ∷ (map (background_line parts) parts.settings.background
      ++ (given_lines parts parts.settings.pools ++ line.End ∷ []))

  rest_are : rest_lines ≡ tail_lines laid
  rest_are = ap (λ z. line.Explore (map (symbol_name parts) parts.settings.explored) ∷ z)
      (sides_back parts parts.settings.background (given_lines parts parts.settings.pools ++ line.End ∷ [])
      ∙ ap (background_then (map (sides_row parts) parts.settings.background)) (ends_back parts parts.settings.pools))

  pub lines_laid : lines ≡ layout_lines laid
  lines_laid = t.lines_are
      ∙ start_back t.version parts (joined (map (sort_block t.version parts) (sort_ids parts)) ++ (t.functions ++ rest_lines))
      ∙ ap (start_then t.version parts.settings.size parts.settings.budget parts.settings.pairs (pool_rows parts parts.settings.pools))
      (ap (λ i. joined (map (sort_block t.version parts) i) ++ (t.functions ++ rest_lines)) ids_are
      ∙ sorts_back t.version parts (nums sort_no 0 parts.sort_names) (t.functions ++ rest_lines)
      ∙ ap (sorts_then t.version (map (sort_row parts) (nums sort_no 0 parts.sort_names))) (funs.is rest_lines ∙ ap (funs_then t.version funs.rows) rest_are))

  all_within : 0 + length parts.sort_names ≤ length parts.sort_names
  all_within = omega arith

  pub fit : Each (FitsSortRow t.version) (map (sort_row parts) (nums sort_no 0 parts.sort_names))
  fit = rows_fit t.version parts t.well_formed t.fits 0 parts.sort_names all_within

  pub numbers : joined (map (constructors parts) (nums sort_no 0 parts.sort_names)) ++ functions_from 0 parts.symbols ≡ first_of (length parts.symbols) (λ n. record { 0 = n })
  numbers = ap (λ i. joined (map (constructors parts) i) ++ functions_from 0 parts.symbols) (sym ids_are) ∙ t.numbered

  counts : Counts 0 (joined (map (constructors parts) (nums sort_no 0 parts.sort_names)) ++ functions_from 0 parts.symbols)
  counts = subst (Counts 0) (sym (numbers ∙ first_nums (λ n. record { 0 = n }) sym_no 0 parts.symbols (λ i. ap sym_no (zero_plus i)))) (counts_nums 0 parts.symbols)

  per_sort : (f : SortRow → ℕ) (g : SortId → ℕ) (d : ℕ) (xs : List ℕ) → length xs ≡ length parts.sort_names → ((s : SortId) → f (sort_row parts s) ≡ g s) → ((k : ℕ) → g (record { 0 = k }) ≡ slice_index_or xs k d)
      → map f (map (sort_row parts) (nums sort_no 0 parts.sort_names)) ≡ xs
  per_sort f g d xs count same at = map_map f (sort_row parts) (nums sort_no 0 parts.sort_names)
      ∙ ap (map (λ s. f (sort_row parts s))) (sym ids_are) ∙ by_places (λ k. record { 0 = k }) (λ s. f (sort_row parts s)) d xs (length parts.sort_names) (sym count) (λ k. same (record { 0 = k }) ∙ at k)

  sorts_told : sort_names (layout_lines laid) ≡ parts.sort_names
  sorts_told = told_sorts laid ∙ map_map (λ (s : SortRow). s.name) (sort_row parts) (nums sort_no 0 parts.sort_names)
      ∙ ap (map (sort_name parts)) (sym ids_are) ∙ by_places (λ k. record { 0 = k }) (sort_name parts) [] parts.sort_names (length parts.sort_names) refl (λ k. refl)

  names_told : symbol_names (layout_lines laid) ≡ parts.symbol_names
  names_told = told_names laid
      ∙ ap₂ ◌++◌ (per_con_back parts (λ c. c.name) (nums sort_no 0 parts.sort_names)) (fun_names_back parts 0 parts.symbols funs.rows funs.of)
      ∙ sym (map-append (symbol_name parts) (joined (map (constructors parts) (nums sort_no 0 parts.sort_names))) (functions_from 0 parts.symbols))
      ∙ ap (map (symbol_name parts)) numbers ∙ by_places (λ k. record { 0 = k }) (symbol_name parts) [] parts.symbol_names (length parts.symbols) (sym t.well_formed.one_name_each) (λ k. refl)

  symbols_told : (whole (layout_lines laid)).symbols ≡ map headed parts.symbols
  symbols_told =
      let text = whole (layout_lines laid) in
      let H : SymId → Option Sym = λ f. option_map headed (symbol_at parts f) in
      let A = con_syms text.sorts 0 (map (sort_row parts) (nums sort_no 0 parts.sort_names)) in
      let B = fun_syms text t.version funs.rows (tail_lines laid) in
      let count : length parts.symbols ≡ length (map Some (map headed parts.symbols)) = sym (length-map (map headed parts.symbols) Some ∙ length-map parts.symbols headed) in
      headed_symbols text 0 (layout_lines laid) ∙ ap (map headed) (told_symbols text laid)
      ∙ somes_same text parts t.well_formed sorts_told (map headed (A ++ B)) (map headed parts.symbols)
      (ap (map Some) (map-append headed A B) ∙ map-append Some (map headed A) (map headed B)
      ∙ ap₂ ◌++◌ (blocks_again text parts t.well_formed sorts_told 0 parts.sort_names)
      (funs_again text parts t.well_formed sorts_told t.version 0 parts.symbols funs.rows (tail_lines laid) by_number funs.of)
      ∙ sym (map-append H (joined (map (constructors parts) (nums sort_no 0 parts.sort_names))) (functions_from 0 parts.symbols))
      ∙ ap (map H) numbers ∙ by_places (λ k. record { 0 = k }) H None (map Some (map headed parts.symbols)) (length parts.symbols) count (λ k. get_somes parts.symbols k))

  pub declares : Declares (whole (layout_lines laid)) parts
  declares = record {
    sorts = sorts_told;
    names = names_told;
    symbols = symbols_told;
    vars = told_vars laid fit ∙ per_sort (λ s. s.vars) (vars_at parts) 0 parts.settings.vars t.well_formed.settings.vars.one_each (λ s. refl) (λ k. refl);
  }

  pub same_widths : (whole (layout_lines laid)).widths ≡ parts.settings.width
  same_widths = told_widths laid fit ∙ per_sort (λ s. s.width) (width_at parts) 1 parts.settings.width t.well_formed.settings.width.one_each (λ s. refl) (λ k. refl)

  start_fine : (text : Whole) (v : Version) → FitsVersion v parts → (ps : PoolRows) (rest : List RawLine) → NoFaults text nothing_seen (rule_line ps ∷ rest)
      → NoFaults text nothing_seen (start_then v parts.settings.size parts.settings.budget parts.settings.pairs ps rest)
  start_fine text (first vars width) fits ps rest h =
      let s = t.well_formed.settings in
      let one : 0 < length parts.sort_names = t.well_formed.sorts_range.0 in
      let in_vars : 0 < length parts.settings.vars = subst (λ n. 0 < n) (sym s.vars.one_each) one in
      let in_width : 0 < length parts.settings.width = subst (λ n. 0 < n) (sym s.width.one_each) one in
      let v = subst (IsBetween 0 8) (each_at (λ n. n ≡ vars) 0 parts.settings.vars 0 fits.0 in_vars) (each_at (IsBetween 0 8) 0 parts.settings.vars 0 s.vars.in_range in_vars) in
      let w = subst (IsBetween 1 16) (each_at (λ n. n ≡ width) 1 parts.settings.width 0 fits.1 in_width) (each_at (IsBetween 1 16) 1 parts.settings.width 0 s.width.in_range in_width) in (
        refl,
        (
          setting_none 0 8 vars v,
          (
            setting_none 1 32 parts.settings.size s.size,
            (
              setting_none 1 16 width w,
              (
                setting_none 1 1000000 parts.settings.budget s.budget,
                (setting_none 0 4096 parts.settings.pairs (omega arith, s.pairs), h),
              ),
            ),
          ),
        ),
      )
  start_fine text second fits ps rest h =
      let s = t.well_formed.settings in
      (refl, (setting_none 1 32 parts.settings.size s.size, (setting_none 1 1000000 parts.settings.budget s.budget, (setting_none 0 4096 parts.settings.pairs (omega arith, s.pairs), h))))
  start_fine text third fits ps rest h =
      let s = t.well_formed.settings in
      (refl, (setting_none 1 32 parts.settings.size s.size, (setting_none 1 1000000 parts.settings.budget s.budget, (setting_none 0 4096 parts.settings.pairs (omega arith, s.pairs), h))))

  tail_fine : (text : Whole) (seen : Seen) → Declares text parts → text.widths ≡ parts.settings.width → seen.pools ≡ 0 → NoFaults text seen (tail_lines laid)
  tail_fine text seen d w e =
      let s = t.well_formed.settings in (
        explored_fine text parts t.well_formed d w [] parts.settings.explored s.explored_declared (λ f at. in_none at) (λ f at. in_none at) s.explored_distinct,
        sides_fine text parts t.well_formed d w seen parts.settings.background (pool_lines (pool_rows parts parts.settings.pools)) s.background
            (ends_fine text parts t.well_formed d w seen parts.settings.pools e s.pools),
      )

  fine : (text : Whole) → Declares text parts → text.widths ≡ parts.settings.width → NoFaults text nothing_seen (layout_lines laid)
  fine text d w =
      let after = sorts_seen nothing_seen (map (sort_row parts) (nums sort_no 0 parts.sort_names)) in
      let e : (funs_seen after funs.rows).pools ≡ 0 = funs_pools after funs.rows ∙ sorts_pools nothing_seen (map (sort_row parts) (nums sort_no 0 parts.sort_names)) in
      start_fine text t.version t.fits (pool_rows parts parts.settings.pools) (declared_lines laid)
      (rule_fine text parts t.well_formed d w nothing_seen parts.settings.pools (declared_lines laid) t.well_formed.settings.pools
      (sorts_fine text parts t.well_formed d t.version nothing_seen 0 parts.sort_names (functions_from 0 parts.symbols) (funs_then t.version funs.rows (tail_lines laid)) refl all_within counts
      (funs_fine text parts t.well_formed d t.version after 0 parts.symbols funs.rows (tail_lines laid) by_number funs.of
      (counts_sorts text parts t.well_formed d nothing_seen 0 parts.sort_names (functions_from 0 parts.symbols) counts) refl
      (tail_fine text (funs_seen after funs.rows) d w e))))

  pub back : first_fault lines ≡ None
  back = ap first_fault lines_laid
      ∙ faults_none (whole (layout_lines laid)) nothing_seen 1 (layout_lines laid) (fine (whole (layout_lines laid)) declares same_widths)

-- with a fault no signature is stated
pub nothing_stated : (lines : List RawLine) (number : ℕ) (fault : TypeKind) → first_fault lines ≡ Some (err.At number fault) → StatesNothing lines (err.At number fault)
nothing_stated lines number fault e parts t = none_is (err.At number fault) (sym (back lines parts t) ∙ e)

-- what an error of going through the lines says of the text
pub tells_first : (lines : List RawLine) (text : Whole) → text ≡ whole lines → (e : TypeErr)
    → TellsFault {A = Unit {0}} (Err e) (faults_from text nothing_seen 1 lines) → TellsFault {A = Unit {0}} (Err e) (first_fault lines)
tells_first lines text is (err.At number fault) h = sym (ap (λ t. faults_from t nothing_seen 1 lines) is) ∙ h
tells_first lines text is err.NoMemory h = tt

pub tells_nothing : (lines : List RawLine) (text : Whole) → text ≡ whole lines → (e : TypeErr)
    → TellsFault {A = Unit {0}} (Err e) (faults_from text nothing_seen 1 lines) → StatesNothing lines e
tells_nothing lines text is (err.At number fault) h = nothing_stated lines number fault (sym (ap (λ t. faults_from t nothing_seen 1 lines) is) ∙ h)
tells_nothing lines text is err.NoMemory h = tt
