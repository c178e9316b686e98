-- A text states at most one signature: what its lines state, made line by line.
use Rattle.std.proofs.Common.{◌≡◌, ℕ, zero, suc, ◌+◌, ◌<◌, ◌≤◌, List, [], ◌∷◌, ◌++◌, map, length, Option, Some, None, slice_get, slice_index_or, arith, refl, sym, ap, ap₂, ◌∙◌, subst}
use Rattle.std.proofs.lemmas.List.{length-map, map-append}
use Rattle.std.proofs.lemmas.Option.{slice_get_within}
use Rattle.law_sig.specs.Lists.{In, Each}
use Rattle.law_sig.specs.Lists.In.{here, there}
use Rattle.law_sig.specs.Trees.{joined, node_count, depth}
use Rattle.law_sig.specs.Signature.{symbol_at, constructors, constructors_from, weight_at}
use Rattle.law_sig.specs.WellFormed.{IsBetween, IsWritable, IsBackground, IsValueOf, IsPoolFrom, IsPool, IsPoolRule, FitsPlace, IsWellFormed}
use Rattle.law_sig.specs.declared.tree.SortId.{SortId}
use Rattle.law_sig.specs.declared.tree.SymId.{SymId}
use Rattle.law_sig.specs.declared.tree.Tree.{Tree}
use Rattle.law_sig.specs.declared.tree.Body.{Body}
use Rattle.law_sig.specs.declared.parts.Fun.{Fun}
use Rattle.law_sig.specs.declared.parts.Sym.{Sym}
use Rattle.law_sig.specs.declared.parts.Sym.TheVariants as sym
use Rattle.law_sig.specs.declared.parts.Equation.{Equation}
use Rattle.law_sig.specs.declared.parts.PoolRule.{PoolRule}
use Rattle.law_sig.specs.declared.parts.PoolRule.TheVariants as rule
use Rattle.law_sig.specs.declared.parts.Settings.{Settings}
use Rattle.law_sig.specs.declared.parts.SigParts.{SigParts}
use Rattle.law_laws.proofs.BodyFacts.{some_is}
use Rattle.law_laws.proofs.Sorts.{same_sort_is}
use Rattle.law_lines.specs.declared.raw.RawLine.{RawLine}
use Rattle.law_typing.specs.Naming.{named_term}
use Rattle.law_typing.specs.Declarations.{sort_id, whole}
use Rattle.law_typing.specs.LineFaults.{case_names}
use Rattle.law_typing.specs.Stated.{short, stated_tree, stated_body, stated_case, stated_cases, stated_place, stated_bodies, stated_symbols, stated}
use Rattle.law_typing.specs.Typed.{Version, IsTypedAs, functions_from}
use Rattle.law_typing.specs.declared.whole.Whole.{Whole}
use Rattle.law_typing.proofs.SideFacts.{Declares}
use Rattle.law_typing.proofs.Laid.{Rules, FunRow, Layout, cases_then, rules_then, funs_then, tail_lines, layout_lines}
use Rattle.law_typing.proofs.Laid.Rules.{single, matching}
use Rattle.law_typing.proofs.Told.{told_weights, told_explored, told_background, told_size, told_budget, told_pairs, told_pools, told_symbols, stated_sides, stated_row, stated_pool_rule, con_sym, con_syms, fun_sym, fun_syms}
use Rattle.law_typing.proofs.States.{short_is}
use Rattle.law_typing.proofs.Blocks.{sort_no, nums}
use Rattle.law_typing.proofs.Counted.{cons_of, cons_headed}
use Rattle.law_typing.proofs.SymbolsSound.{no_cases}
use Rattle.law_faultless.proofs.LaidBack.{con_row, sort_row, RulesOf, FunOf, RowsOf}
use Rattle.law_faultless.proofs.DeclaresBack.{by_places, per_con_back, sort_again, args_again, somes_same}
use Rattle.law_faultless.proofs.TextBack.{sides_row, values_rows, pool_rows, by_number, funs, laid, lines_laid, fit, numbers, declares, same_widths}
use Rattle.law_faultless.proofs.ReadBack.{symbols_back, tree_back, body_back, cases_read}

-- Lists

all_as_were : {A B : Type 0} (P : A → Type 0) (f : B → A) (g : A → B) (xs : List A) → Each P xs → ((x : A) → P x → f (g x) ≡ x) → map f (map g xs) ≡ xs
all_as_were P f g [] h k = refl
all_as_were P f g (x ∷ xs) h k = ap₂ ◌∷◌ (k x h.0) (all_as_were P f g xs h.1 k)

shorts_are : (low high : ℕ) (xs : List ℕ) → high ≤ 4294967295 → Each (IsBetween low high) xs → map short xs ≡ xs
shorts_are low high [] l h = refl
shorts_are low high (x ∷ xs) l h = let b = h.0.1 in let k : x ≤ 4294967295 = omega (arith, b, l) in ap₂ ◌∷◌ (short_is x k) (shorts_are low high xs l h.1)

short_weight : (xs : List ℕ) (k : ℕ) → Each (IsBetween 1 4) xs → short (slice_index_or xs k 1) ≡ slice_index_or xs k 1
short_weight [] k h = refl
short_weight (x ∷ xs) zero h = let b = h.0.1 in let k : x ≤ 4294967295 = omega (arith, b) in short_is x k
short_weight (x ∷ xs) (suc k) h = short_weight xs k h.1

get_symbols : (xs : List Sym) (k : ℕ) → slice_get xs k ≡ slice_index_or (map Some xs) k None
get_symbols [] k = refl
get_symbols (x ∷ xs) zero = refl
get_symbols (x ∷ xs) (suc k) = get_symbols xs k

fun_weights_back : (parts : SigParts) (k : ℕ) (symbols : List Sym) (rows : List FunRow) → RowsOf parts k symbols rows
    → map (λ (r : FunRow). short r.weight) rows ≡ map (λ f. short (weight_at parts f)) (functions_from k symbols)
fun_weights_back parts k [] rows h = ap (map (λ (r : FunRow). short r.weight)) h
fun_weights_back parts k (sym.Con con ∷ symbols) rows h = fun_weights_back parts (suc k) symbols rows h
fun_weights_back parts k (sym.Fun fun ∷ symbols) [] h = absurd h
fun_weights_back parts k (sym.Fun fun ∷ symbols) (r ∷ rows) h = ap₂ ◌∷◌ (ap short h.0.weight) (fun_weights_back parts (suc k) symbols rows h.1)

module _ (text : Whole) (parts : SigParts) (formed : IsWellFormed parts) (declared : Declares text parts) where
  -- Background and pools

  sides_stay : (e : Equation) → IsBackground parts e → stated_sides text (sides_row parts e) ≡ e
  sides_stay e h = ap₂ (λ l r. record { left = l; right = r }) (tree_back text parts formed declared e.left h.sort h.left_side.sorted)
      (tree_back text parts formed declared e.right h.sort h.right_side.sorted)

  values_stay : (sort : SortId) (vs : List Tree) → Each (λ v. IsValueOf parts sort v × IsWritable (node_count v) (depth v)) vs
      → map (stated_tree text) (map (named_term parts) vs) ≡ vs
  values_stay sort vs h = all_as_were (λ v. IsValueOf parts sort v × IsWritable (node_count v) (depth v)) (stated_tree text) (named_term parts) vs h
      (λ v k. tree_back text parts formed declared v sort k.0.sorted)

  pool_stays : (k : ℕ) (pool : List (List Tree)) → IsPoolFrom parts k pool → map (stated_row text) (values_rows parts k pool) ≡ pool
  pool_stays k [] h = refl
  pool_stays k (vs ∷ pool) h = ap₂ ◌∷◌ (values_stay (record { 0 = k }) vs h.0.each) (pool_stays (suc k) pool h.1)

  rule_stays : (r : PoolRule) → IsPoolRule parts r → stated_pool_rule text (pool_rows parts r) ≡ r
  rule_stays (rule.Given pools) h = ap rule.Given
      (all_as_were (IsPool parts) (map (stated_row text)) (values_rows parts 0) pools h.each_pool (λ p k. pool_stays 0 p k.values))
  rule_stays (rule.Seeded s h c) k =
      let a = k.height_range.1 in let d = k.count_range.1 in
      let low : h ≤ 4294967295 = omega (arith, a) in
      let few : c ≤ 4294967295 = omega (arith, d) in
      ap₂ (rule.Seeded s) (short_is h low) (short_is c few)

  -- Functions

  abbrev Back : Fun → Option ℕ → List SortId → List RawLine → Type 0
  Back fun place args lines = (stated_place lines ≡ place) × (stated_bodies text args lines ≡ fun.cases)

  rules_stay : (k : SymId) (fun : Fun) (place : Option ℕ) (r : Rules) (rest : List RawLine) → length fun.args ≤ 8 → case_names rest ≡ [] → FitsPlace parts k fun place
      → RulesOf parts fun place r → Back fun place fun.args (rules_then r rest)
  rules_stay k fun None (single t) rest few none fits of =
      let same : fits.0 ≡ of.0 = first_is fits.0 of.0 (sym fits.1 ∙ of.1) in (
        refl,
        ap (λ z. z ∷ []) (ap (stated_body text) of.2
            ∙ body_back text parts formed declared (record { owner = k; place = None; fields = []; params = fun.args }) of.0 fun.result (subst (λ z. Rattle.law_sig.specs.WellFormed.IsBody parts (record { owner = k; place = None; fields = []; params = fun.args }) fun.result z) same fits.2).sorted)
            ∙ sym of.1,
      )
    where
      first_is : (x y : Body) → x ∷ [] ≡ y ∷ [] → x ≡ y
      first_is x y e = cc
  rules_stay k fun None (matching n cs) rest few none fits of = absurd of
  rules_stay k fun (Some place) (single t) rest few none fits of = absurd of
  rules_stay k fun (Some place) (matching n cs) rest few none fits of =
      let same : fits.0 ≡ of.0 = some_is fits.0 of.0 (sym fits.1 ∙ of.2) in
      let within : place < length fun.args = slice_get_within fun.args place of.0 of.2 in
      let low : place ≤ 4294967295 = omega (arith, within, few) in
      let cons : constructors_from 0 text.symbols of.0 ≡ constructors parts of.0 = ap (λ l. constructors_from 0 l of.0) declared.symbols ∙ cons_headed 0 parts.symbols of.0 in (
        ap (λ z. Some (short z)) of.1 ∙ ap Some (short_is place low),
        ap (λ z. stated_cases text (cases_then cs rest) (slice_get fun.args z)) of.1 ∙ ap (stated_cases text (cases_then cs rest)) of.2
            ∙ ap (map (stated_case text (cases_then cs rest))) cons
            ∙ cases_read text parts formed declared k place fun.args fun.result of.0 fun.cases cs rest
            (subst (λ s. Rattle.law_sig.specs.WellFormed.AreCases parts (λ fields t. Rattle.law_sig.specs.WellFormed.IsBody parts (record { owner = k; place = Some place; fields = fields; params = fun.args }) fun.result t) (constructors parts s) fun.cases) same fits.2) of.3 none,
      )

  same_fun : (fun : Fun) (args : List SortId) (result : SortId) (place : Option ℕ) (cases : List Body) → args ≡ fun.args → result ≡ fun.result → place ≡ fun.place → cases ≡ fun.cases
      → ◌≡◌ {A = Sym} (sym.Fun (record { args = args; result = result; place = place; cases = cases })) (sym.Fun fun)
  same_fun fun args result place cases a r p c =
      ap₂ (λ x y. sym.Fun (record { args = x; result = y; place = place; cases = cases })) a r
      ∙ ap₂ (λ x y. sym.Fun (record { args = fun.args; result = fun.result; place = x; cases = y })) p c

  fun_stays : (k : ℕ) (fun : Fun) (r : FunRow) (rest : List RawLine) → symbol_at parts (record { 0 = k }) ≡ Some (sym.Fun fun) → case_names rest ≡ [] → FunOf parts k fun r
      → fun_sym text r (rules_then r.rules rest) ≡ sym.Fun fun
  fun_stays k fun r rest here_it_is none of =
      let symbol = formed.symbols (record { 0 = k }) (sym.Fun fun) here_it_is in
      let args : map (sort_id text.sorts) r.args ≡ fun.args = ap (map (sort_id text.sorts)) of.args
      ∙ args_again text parts formed declared.sorts (record { 0 = k }) (sym.Fun fun) here_it_is in
      let rules = rules_stay (record { 0 = k }) fun fun.place r.rules rest symbol.args_bound none symbol.bodies of.rules in
      same_fun fun (map (sort_id text.sorts) r.args) (sort_id text.sorts r.result) (stated_place (rules_then r.rules rest)) (stated_bodies text (map (sort_id text.sorts) r.args) (rules_then r.rules rest))
      args (ap (sort_id text.sorts) of.result ∙ sort_again text parts formed declared.sorts fun.result symbol.result_declared) rules.0
      (ap (λ a. stated_bodies text a (rules_then r.rules rest)) args ∙ rules.1)

  funs_stay : (v : Version) (k : ℕ) (symbols : List Sym) (rows : List FunRow) (tail : List RawLine) → case_names tail ≡ []
      → ((i : ℕ) (s : Sym) → slice_get symbols i ≡ Some s → symbol_at parts (record { 0 = k + i }) ≡ Some s) → RowsOf parts k symbols rows
      → map Some (fun_syms text v rows tail) ≡ map (symbol_at parts) (functions_from k symbols)
  funs_stay v k [] rows tail none at h = ap (λ z. map Some (fun_syms text v z tail)) h
  funs_stay v k (sym.Con con ∷ symbols) rows tail none at h =
      funs_stay v (suc k) symbols rows tail none (λ i s e. ap (λ n. symbol_at parts (record { 0 = n })) (later i) ∙ at (suc i) s e) h
    where
      later : (i : ℕ) → suc k + i ≡ k + suc i
      later i = omega arith
  funs_stay v k (sym.Fun fun ∷ symbols) [] tail none at h = absurd h
  funs_stay v k (sym.Fun fun ∷ symbols) (r ∷ rows) tail none at h =
      let here_it_is : symbol_at parts (record { 0 = k }) ≡ Some (sym.Fun fun) = ap (λ n. symbol_at parts (record { 0 = n })) plain ∙ at 0 (sym.Fun fun) refl in
      ap₂ ◌∷◌ (ap Some (fun_stays k fun r (funs_then v rows tail) here_it_is (no_cases v rows tail none) h.0) ∙ sym here_it_is)
      (funs_stay v (suc k) symbols rows tail none (λ i s e. ap (λ n. symbol_at parts (record { 0 = n })) (later i) ∙ at (suc i) s e) h.1)
    where
      plain : k ≡ k + 0
      plain = omega arith

      later : (i : ℕ) → suc k + i ≡ k + suc i
      later i = omega arith

  -- Constructors

  con_stays : (m : ℕ) (c : SymId) → In c (constructors parts (record { 0 = m })) → Some (con_sym text.sorts m (con_row parts c)) ≡ symbol_at parts c
  con_stays m c at =
      let i = cons_of 0 parts.symbols (record { 0 = m }) c at in
      let plain : 0 + i.place ≡ i.place = omega arith in
      let here_it_is : symbol_at parts c ≡ Some (sym.Con i.con) = ap (λ (z : SymId). slice_get parts.symbols z.0) i.is ∙ ap (slice_get parts.symbols) plain ∙ i.at in
      let sort : i.con.sort ≡ record { 0 = m } = same_sort_is i.con.sort (record { 0 = m }) i.of in
      ap₂ (λ s a. Some (sym.Con (record { sort = s; args = a }))) (sym sort) (args_again text parts formed declared.sorts c (sym.Con i.con) here_it_is) ∙ sym here_it_is

  cons_stay : (m : ℕ) (cs : List SymId) → ((c : SymId) → In c cs → In c (constructors parts (record { 0 = m })))
      → map Some (map (con_sym text.sorts m) (map (con_row parts) cs)) ≡ map (symbol_at parts) cs
  cons_stay m [] h = refl
  cons_stay m (c ∷ cs) h = ap₂ ◌∷◌ (con_stays m c (h c here)) (cons_stay m cs (λ x at. h x (there at)))

  blocks_stay : (m : ℕ) (ns : List (List ℕ)) → map Some (con_syms text.sorts m (map (sort_row parts) (nums sort_no m ns)))
      ≡ map (symbol_at parts) (joined (map (constructors parts) (nums sort_no m ns)))
  blocks_stay m [] = refl
  blocks_stay m (n ∷ ns) =
      let cs = constructors parts (record { 0 = m }) in
      map-append Some (map (con_sym text.sorts m) (map (con_row parts) cs)) (con_syms text.sorts (suc m) (map (sort_row parts) (nums sort_no (suc m) ns)))
      ∙ ap₂ ◌++◌ (cons_stay m cs (λ c at. at)) (blocks_stay (suc m) ns)
      ∙ sym (map-append (symbol_at parts) cs (joined (map (constructors parts) (nums sort_no (suc m) ns))))

-- The whole signature

same_settings : (s t : Settings) → s.vars ≡ t.vars → s.size ≡ t.size → s.width ≡ t.width → s.budget ≡ t.budget → s.pairs ≡ t.pairs → s.weights ≡ t.weights
    → s.explored ≡ t.explored → s.background ≡ t.background → s.pools ≡ t.pools → s ≡ t
same_settings s t a c d e f g h i j =
    ap₂ (λ x y. record { vars = x; size = y; width = s.width; budget = s.budget; pairs = s.pairs; weights = s.weights; explored = s.explored; background = s.background; pools = s.pools }) a c
    ∙ ap₂ (λ x y. record { vars = t.vars; size = t.size; width = x; budget = y; pairs = s.pairs; weights = s.weights; explored = s.explored; background = s.background; pools = s.pools }) d e
    ∙ ap₂ (λ x y. record { vars = t.vars; size = t.size; width = t.width; budget = t.budget; pairs = x; weights = y; explored = s.explored; background = s.background; pools = s.pools }) f g
    ∙ ap₂ (λ x y. record { vars = t.vars; size = t.size; width = t.width; budget = t.budget; pairs = t.pairs; weights = t.weights; explored = x; background = y; pools = s.pools }) h i
    ∙ ap (λ x. record { vars = t.vars; size = t.size; width = t.width; budget = t.budget; pairs = t.pairs; weights = t.weights; explored = t.explored; background = t.background; pools = x }) j

same_parts : (s t : SigParts) → s.sort_names ≡ t.sort_names → s.symbol_names ≡ t.symbol_names → s.symbols ≡ t.symbols → s.settings ≡ t.settings → s ≡ t
same_parts s t a c d e =
    ap₂ (λ x y. record { sort_names = x; symbol_names = y; symbols = s.symbols; settings = s.settings }) a c
    ∙ ap₂ (λ x y. record { sort_names = t.sort_names; symbol_names = t.symbol_names; symbols = x; settings = y }) d e

module _ (lines : List RawLine) (parts : SigParts) (t : IsTypedAs lines parts) where
  abbrev lay : Layout
  lay = laid lines parts t

  abbrev text : Whole
  text = whole (layout_lines (laid lines parts t))

  of_symbols : stated_symbols (whole (layout_lines (laid lines parts t))) 0 (layout_lines (laid lines parts t)) ≡ parts.symbols
  of_symbols =
      let A = con_syms text.sorts 0 (map (sort_row parts) (nums sort_no 0 parts.sort_names)) in
      let B = fun_syms text t.version (funs lines parts t).rows (tail_lines lay) in
      let H : SymId → Option Sym = symbol_at parts in
      let count : length parts.symbols ≡ length (map Some parts.symbols) = sym (length-map parts.symbols Some) in
      told_symbols text lay
      ∙ somes_same text parts t.well_formed (declares lines parts t).sorts (A ++ B) parts.symbols
      (map-append Some A B
      ∙ ap₂ ◌++◌ (blocks_stay text parts t.well_formed (declares lines parts t) 0 parts.sort_names)
      (funs_stay text parts t.well_formed (declares lines parts t) t.version 0 parts.symbols (funs lines parts t).rows (tail_lines lay) refl (by_number lines parts t) (funs lines parts t).of)
      ∙ sym (map-append H (joined (map (constructors parts) (nums sort_no 0 parts.sort_names))) (functions_from 0 parts.symbols))
      ∙ ap (map H) (numbers lines parts t) ∙ by_places (λ k. record { 0 = k }) H None (map Some parts.symbols) (length parts.symbols) count (λ k. get_symbols parts.symbols k))

  of_weights : (stated (whole (layout_lines (laid lines parts t))) (layout_lines (laid lines parts t))).settings.weights ≡ parts.settings.weights
  of_weights =
      let W : SymId → ℕ = λ f. short (weight_at parts f) in
      told_weights lay (fit lines parts t) (funs lines parts t).fits
      ∙ ap₂ ◌++◌ (per_con_back parts (λ c. short c.weight) (nums sort_no 0 parts.sort_names)) (fun_weights_back parts 0 parts.symbols (funs lines parts t).rows (funs lines parts t).of)
      ∙ sym (map-append W (joined (map (constructors parts) (nums sort_no 0 parts.sort_names))) (functions_from 0 parts.symbols))
      ∙ ap (map W) (numbers lines parts t)
      ∙ by_places (λ k. record { 0 = k }) W 1 parts.settings.weights (length parts.symbols) (sym t.well_formed.settings.weights.one_each)
      (λ k. short_weight parts.settings.weights k t.well_formed.settings.weights.in_range)

  of_settings : (stated (whole (layout_lines (laid lines parts t))) (layout_lines (laid lines parts t))).settings ≡ parts.settings
  of_settings =
      let d = declares lines parts t in
      let s = t.well_formed.settings in
      let a = s.size.1 in let p = s.pairs in
      let size_low : parts.settings.size ≤ 4294967295 = omega (arith, a) in
      let pairs_low : parts.settings.pairs ≤ 4294967295 = omega (arith, p) in
      same_settings (stated text (layout_lines lay)).settings parts.settings
      (ap (map short) d.vars ∙ shorts_are 0 8 parts.settings.vars (omega arith) s.vars.in_range)
      (ap short (told_size lay) ∙ short_is parts.settings.size size_low)
      (ap (map short) (same_widths lines parts t) ∙ shorts_are 1 16 parts.settings.width (omega arith) s.width.in_range)
      (told_budget lay)
      (ap short (told_pairs lay) ∙ short_is parts.settings.pairs pairs_low)
      of_weights
      (told_explored text lay ∙ symbols_back text parts t.well_formed d parts.settings.explored s.explored_declared)
      (told_background text lay ∙ all_as_were (IsBackground parts) (stated_sides text) (sides_row parts) parts.settings.background s.background (sides_stay text parts t.well_formed d))
      (told_pools text lay ∙ rule_stays text parts t.well_formed d parts.settings.pools s.pools)

  -- a signature is what the lines state
  pub stated_is : stated (whole lines) lines ≡ parts
  stated_is = ap (λ z. stated (whole z) z) (lines_laid lines parts t)
      ∙ same_parts (stated text (layout_lines lay)) parts (declares lines parts t).sorts (declares lines parts t).names of_symbols of_settings

pub one_signature : (lines : List RawLine) (p q : SigParts) → IsTypedAs lines p → IsTypedAs lines q → p ≡ q
one_signature lines p q t u = sym (stated_is lines p t) ∙ stated_is lines q u
