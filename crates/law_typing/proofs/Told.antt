-- What a text in its parts states, part by part: numbers, symbols, settings and pools.
use Rattle.std.proofs.Common.{◌≡◌, ℕ, suc, ◌-◌, List, [], ◌∷◌, ◌++◌, map, append_assoc, append-nil, refl, sym, ap, ap₂, ◌∙◌, arith}
use Rattle.law_sig.specs.Lists.{Each}
use Rattle.law_sig.specs.declared.tree.Tree.{Tree}
use Rattle.law_sig.specs.declared.parts.Sym.{Sym}
use Rattle.law_sig.specs.declared.parts.Sym.TheVariants as sym
use Rattle.law_sig.specs.declared.parts.Equation.{Equation}
use Rattle.law_sig.specs.declared.parts.PoolRule.{PoolRule}
use Rattle.law_sig.specs.declared.parts.PoolRule.TheVariants as rule
use Rattle.law_laws.proofs.ListFacts.{each_map}
use Rattle.law_lines.specs.declared.raw.RawLine.{RawLine}
use Rattle.law_lines.specs.declared.raw.RawLine.TheVariants as line
use Rattle.law_typing.specs.Declarations.{sort_id, gathered, vars_in, width_in, vars_of, width_of}
use Rattle.law_typing.specs.Stated.{short, symbol_id, stated_tree, stated_place, stated_bodies, stated_symbols, size_in, budget_in, pairs_in, weight_of, explored_of, equation_of, stated_values, stated_pools, stated_rule}
use Rattle.law_typing.specs.Typed.{Version}
use Rattle.law_typing.specs.Typed.Version.{first, second, third}
use Rattle.law_typing.specs.declared.whole.Whole.{Whole}
use Rattle.law_typing.proofs.Laid.{ConRow, SortRow, CaseRow, Rules, FunRow, SidesRow, ValuesRow, PoolRows, Layout, con_line, sort_line, fun_line, cons_then, sorts_then, cases_then, rules_then, funs_then, background_then, values_then, pools_then, pool_lines, rule_line, start_then, tail_lines, declared_lines, layout_lines, FitsCon, FitsFun, FitsSortRow}
use Rattle.law_typing.proofs.Laid.Rules.{single, matching}
use Rattle.law_typing.proofs.Laid.PoolRows.{given, seeded}
use Rattle.law_typing.proofs.Gathered.{IsQuiet, IsBrief, per_con, per_sort, per_symbol, starts_quiet, sorts_quiet, funs_quiet, sides_give, sides_quiet, ends_quiet}

-- Numbers of variables, widths and weights

vars_brief : (n : ℕ) → IsBrief (vars_of n)
vars_brief n = record {
  quiet = record {
    head = refl;
    head2 = refl;
    head3 = refl;
    vars = λ n. refl;
    size = λ n. refl;
    width = λ n. refl;
    budget = λ n. refl;
    pairs = λ n. refl;
    given_line = refl;
    seed_line = λ s h c. refl;
    match_line = λ n. refl;
    body_line = λ t. refl;
    case_line = λ c t. refl;
    pool_line = refl;
    values_line = λ s v. refl;
    end_line = refl;
  };
  explore = λ n. refl;
  sides = λ l r. refl;
}

width_brief : (n : ℕ) → IsBrief (width_of n)
width_brief n = record {
  quiet = record {
    head = refl;
    head2 = refl;
    head3 = refl;
    vars = λ n. refl;
    size = λ n. refl;
    width = λ n. refl;
    budget = λ n. refl;
    pairs = λ n. refl;
    given_line = refl;
    seed_line = λ s h c. refl;
    match_line = λ n. refl;
    body_line = λ t. refl;
    case_line = λ c t. refl;
    pool_line = refl;
    values_line = λ s v. refl;
    end_line = refl;
  };
  explore = λ n. refl;
  sides = λ l r. refl;
}

weight_brief : IsBrief weight_of
weight_brief = record {
  quiet = record {
    head = refl;
    head2 = refl;
    head3 = refl;
    vars = λ n. refl;
    size = λ n. refl;
    width = λ n. refl;
    budget = λ n. refl;
    pairs = λ n. refl;
    given_line = refl;
    seed_line = λ s h c. refl;
    match_line = λ n. refl;
    body_line = λ t. refl;
    case_line = λ c t. refl;
    pool_line = refl;
    values_line = λ s v. refl;
    end_line = refl;
  };
  explore = λ n. refl;
  sides = λ l r. refl;
}

abbrev common_vars : Version → ℕ → ℕ
common_vars (first vars width) n = vars
common_vars second n = n
common_vars third n = n

abbrev common_width : Version → ℕ → ℕ
common_width (first vars width) n = width
common_width second n = n
common_width third n = n

vars_common : (l : Layout) → vars_in (layout_lines l) ≡ common_vars l.version (vars_in (layout_lines l))
vars_common l = by l.version
  where
    by : (v : Version) → vars_in (start_then v l.size l.budget l.pairs l.pools (declared_lines l))
        ≡ common_vars v (vars_in (start_then v l.size l.budget l.pairs l.pools (declared_lines l)))
    by (first vars width) = refl
    by second = refl
    by third = refl

width_common : (l : Layout) → width_in (layout_lines l) ≡ common_width l.version (width_in (layout_lines l))
width_common l = by l.version
  where
    by : (v : Version) → width_in (start_then v l.size l.budget l.pairs l.pools (declared_lines l))
        ≡ common_width v (width_in (start_then v l.size l.budget l.pairs l.pools (declared_lines l)))
    by (first vars width) = refl
    by second = refl
    by third = refl

pub told_vars : (l : Layout) → Each (FitsSortRow l.version) l.sorts → gathered (vars_of (vars_in (layout_lines l))) (layout_lines l) ≡ map (λ (s : SortRow). s.vars) l.sorts
told_vars l fit = ap (λ n. gathered (vars_of n) (layout_lines l)) (vars_common l)
    ∙ per_sort (vars_of (common_vars l.version n)) (vars_brief (common_vars l.version n)) (λ s. s.vars) l
    (each_map (FitsSortRow l.version) (λ s. vars_of (common_vars l.version n) (sort_line l.version s) ≡ s.vars ∷ []) (at_sort l.version) l.sorts fit)
    (at_con l.version) (at_fun l.version)
  where
    n : ℕ
    n = vars_in (layout_lines l)

    at_sort : (v : Version) (s : SortRow) → FitsSortRow v s → vars_of (common_vars v (vars_in (layout_lines l))) (sort_line v s) ≡ s.vars ∷ []
    at_sort (first vars width) s h = ap (λ z. z ∷ []) (sym h.0.0)
    at_sort second s h = refl
    at_sort third s h = refl

    at_con : (v : Version) (c : ConRow) → vars_of (common_vars v (vars_in (layout_lines l))) (con_line v c) ≡ []
    at_con (first vars width) c = refl
    at_con second c = refl
    at_con third c = refl

    at_fun : (v : Version) (r : FunRow) → vars_of (common_vars v (vars_in (layout_lines l))) (fun_line v r) ≡ []
    at_fun (first vars width) r = refl
    at_fun second r = refl
    at_fun third r = refl

pub told_widths : (l : Layout) → Each (FitsSortRow l.version) l.sorts → gathered (width_of (width_in (layout_lines l))) (layout_lines l) ≡ map (λ (s : SortRow). s.width) l.sorts
told_widths l fit = ap (λ n. gathered (width_of n) (layout_lines l)) (width_common l)
    ∙ per_sort (width_of (common_width l.version n)) (width_brief (common_width l.version n)) (λ s. s.width) l
    (each_map (FitsSortRow l.version) (λ s. width_of (common_width l.version n) (sort_line l.version s) ≡ s.width ∷ []) (at_sort l.version) l.sorts fit)
    (at_con l.version) (at_fun l.version)
  where
    n : ℕ
    n = width_in (layout_lines l)

    at_sort : (v : Version) (s : SortRow) → FitsSortRow v s → width_of (common_width v (width_in (layout_lines l))) (sort_line v s) ≡ s.width ∷ []
    at_sort (first vars width) s h = ap (λ z. z ∷ []) (sym h.0.1)
    at_sort second s h = refl
    at_sort third s h = refl

    at_con : (v : Version) (c : ConRow) → width_of (common_width v (width_in (layout_lines l))) (con_line v c) ≡ []
    at_con (first vars width) c = refl
    at_con second c = refl
    at_con third c = refl

    at_fun : (v : Version) (r : FunRow) → width_of (common_width v (width_in (layout_lines l))) (fun_line v r) ≡ []
    at_fun (first vars width) r = refl
    at_fun second r = refl
    at_fun third r = refl

one_short : 1 ≡ short 1
one_short = refl

pub told_weights : (l : Layout) → Each (FitsSortRow l.version) l.sorts → Each (FitsFun l.version) l.funs
    → gathered weight_of (layout_lines l) ≡ per_con (λ c. short c.weight) l.sorts ++ map (λ (r : FunRow). short r.weight) l.funs
told_weights l fit fits = per_symbol weight_of weight_brief (λ c. short c.weight) (λ r. short r.weight) l (at_sort l.version)
    (each_map (FitsSortRow l.version) (λ (s : SortRow). Each (λ c. weight_of (con_line l.version c) ≡ short c.weight ∷ []) s.cons)
    (λ s h. each_map (FitsCon l.version) (λ c. weight_of (con_line l.version c) ≡ short c.weight ∷ []) (at_con l.version) s.cons h.1) l.sorts fit)
    (each_map (FitsFun l.version) (λ r. weight_of (fun_line l.version r) ≡ short r.weight ∷ []) (at_fun l.version) l.funs fits)
  where
    at_sort : (v : Version) (s : SortRow) → weight_of (sort_line v s) ≡ []
    at_sort (first vars width) s = refl
    at_sort second s = refl
    at_sort third s = refl

    at_con : (v : Version) (c : ConRow) → FitsCon v c → weight_of (con_line v c) ≡ short c.weight ∷ []
    at_con (first vars width) c h = ap (λ z. z ∷ []) (one_short ∙ sym (ap short h))
    at_con second c h = ap (λ z. z ∷ []) (one_short ∙ sym (ap short h))
    at_con third c h = refl

    at_fun : (v : Version) (r : FunRow) → FitsFun v r → weight_of (fun_line v r) ≡ short r.weight ∷ []
    at_fun (first vars width) r h = ap (λ z. z ∷ []) (one_short ∙ sym (ap short h))
    at_fun second r h = ap (λ z. z ∷ []) (one_short ∙ sym (ap short h))
    at_fun third r h = refl

-- Explored names and background

explored_quiet : (text : Whole) → IsQuiet (explored_of text)
explored_quiet text = record {
  head = refl;
  head2 = refl;
  head3 = refl;
  vars = λ n. refl;
  size = λ n. refl;
  width = λ n. refl;
  budget = λ n. refl;
  pairs = λ n. refl;
  given_line = refl;
  seed_line = λ s h c. refl;
  match_line = λ n. refl;
  body_line = λ t. refl;
  case_line = λ c t. refl;
  pool_line = refl;
  values_line = λ s v. refl;
  end_line = refl;
}

equation_quiet : (text : Whole) → IsQuiet (equation_of text)
equation_quiet text = record {
  head = refl;
  head2 = refl;
  head3 = refl;
  vars = λ n. refl;
  size = λ n. refl;
  width = λ n. refl;
  budget = λ n. refl;
  pairs = λ n. refl;
  given_line = refl;
  seed_line = λ s h c. refl;
  match_line = λ n. refl;
  body_line = λ t. refl;
  case_line = λ c t. refl;
  pool_line = refl;
  values_line = λ s v. refl;
  end_line = refl;
}

-- from the start to the explored names
to_tail : {A : Type 0} (f : RawLine → List A) → IsQuiet f → (l : Layout) → ((v : Version) (s : SortRow) → f (sort_line v s) ≡ [])
    → ((v : Version) (c : ConRow) → f (con_line v c) ≡ []) → ((v : Version) (r : FunRow) → f (fun_line v r) ≡ []) → gathered f (layout_lines l) ≡ gathered f (tail_lines l)
to_tail f q l at_sort at_con at_fun = starts_quiet f q l.version l.size l.budget l.pairs l.pools (declared_lines l)
    ∙ sorts_quiet f l.version l.sorts (funs_then l.version l.funs (tail_lines l)) (at_sort l.version) (at_con l.version)
    ∙ funs_quiet f q l.version l.funs (tail_lines l) (at_fun l.version)

pub told_explored : (text : Whole) (l : Layout) → gathered (explored_of text) (layout_lines l) ≡ map (symbol_id text) l.explored
told_explored text l = to_tail (explored_of text) (explored_quiet text) l at_sort at_con at_fun
    ∙ ap (λ z. map (symbol_id text) l.explored ++ z) (sides_quiet (explored_of text) l.background (pool_lines l.pools) (λ a b. refl)
    ∙ ends_quiet (explored_of text) (explored_quiet text) l.pools) ∙ append-nil (map (symbol_id text) l.explored)
  where
    at_sort : (v : Version) (s : SortRow) → explored_of text (sort_line v s) ≡ []
    at_sort (first vars width) s = refl
    at_sort second s = refl
    at_sort third s = refl

    at_con : (v : Version) (c : ConRow) → explored_of text (con_line v c) ≡ []
    at_con (first vars width) c = refl
    at_con second c = refl
    at_con third c = refl

    at_fun : (v : Version) (r : FunRow) → explored_of text (fun_line v r) ≡ []
    at_fun (first vars width) r = refl
    at_fun second r = refl
    at_fun third r = refl

abbrev pub stated_sides : Whole → SidesRow → Equation
stated_sides text e = record { left = stated_tree text e.left; right = stated_tree text e.right }

pub told_background : (text : Whole) (l : Layout) → gathered (equation_of text) (layout_lines l) ≡ map (stated_sides text) l.background
told_background text l = to_tail (equation_of text) (equation_quiet text) l at_sort at_con at_fun
    ∙ sides_give (equation_of text) (stated_sides text) l.background (pool_lines l.pools) (λ e. refl)
    ∙ ap (λ z. map (stated_sides text) l.background ++ z) (ends_quiet (equation_of text) (equation_quiet text) l.pools) ∙ append-nil (map (stated_sides text) l.background)
  where
    at_sort : (v : Version) (s : SortRow) → equation_of text (sort_line v s) ≡ []
    at_sort (first vars width) s = refl
    at_sort second s = refl
    at_sort third s = refl

    at_con : (v : Version) (c : ConRow) → equation_of text (con_line v c) ≡ []
    at_con (first vars width) c = refl
    at_con second c = refl
    at_con third c = refl

    at_fun : (v : Version) (r : FunRow) → equation_of text (fun_line v r) ≡ []
    at_fun (first vars width) r = refl
    at_fun second r = refl
    at_fun third r = refl

-- Settings

pub told_size : (l : Layout) → size_in (layout_lines l) ≡ l.size
told_size l = by l.version
  where
    by : (v : Version) → size_in (start_then v l.size l.budget l.pairs l.pools (declared_lines l)) ≡ l.size
    by (first vars width) = refl
    by second = refl
    by third = refl

pub told_budget : (l : Layout) → budget_in (layout_lines l) ≡ l.budget
told_budget l = by l.version
  where
    by : (v : Version) → budget_in (start_then v l.size l.budget l.pairs l.pools (declared_lines l)) ≡ l.budget
    by (first vars width) = refl
    by second = refl
    by third = refl

pub told_pairs : (l : Layout) → pairs_in (layout_lines l) ≡ l.pairs
told_pairs l = by l.version
  where
    by : (v : Version) → pairs_in (start_then v l.size l.budget l.pairs l.pools (declared_lines l)) ≡ l.pairs
    by (first vars width) = refl
    by second = refl
    by third = refl

-- Pools

pools_cons : (text : Whole) (v : Version) (cs : List ConRow) (rest : List RawLine) → stated_pools text (cons_then v cs rest) ≡ stated_pools text rest
pools_cons text v [] rest = refl
pools_cons text (first vars width) (c ∷ cs) rest = pools_cons text (first vars width) cs rest
pools_cons text second (c ∷ cs) rest = pools_cons text second cs rest
pools_cons text third (c ∷ cs) rest = pools_cons text third cs rest

pools_sorts : (text : Whole) (v : Version) (ss : List SortRow) (rest : List RawLine) → stated_pools text (sorts_then v ss rest) ≡ stated_pools text rest
pools_sorts text v [] rest = refl
pools_sorts text (first vars width) (s ∷ ss) rest =
    pools_cons text (first vars width) s.cons (sorts_then (first vars width) ss rest) ∙ pools_sorts text (first vars width) ss rest
pools_sorts text second (s ∷ ss) rest = pools_cons text second s.cons (sorts_then second ss rest) ∙ pools_sorts text second ss rest
pools_sorts text third (s ∷ ss) rest = pools_cons text third s.cons (sorts_then third ss rest) ∙ pools_sorts text third ss rest

pools_cases : (text : Whole) (cs : List CaseRow) (rest : List RawLine) → stated_pools text (cases_then cs rest) ≡ stated_pools text rest
pools_cases text [] rest = refl
pools_cases text (c ∷ cs) rest = pools_cases text cs rest

pools_rules : (text : Whole) (r : Rules) (rest : List RawLine) → stated_pools text (rules_then r rest) ≡ stated_pools text rest
pools_rules text (single t) rest = refl
pools_rules text (matching n cs) rest = pools_cases text cs rest

pools_funs : (text : Whole) (v : Version) (fs : List FunRow) (rest : List RawLine) → stated_pools text (funs_then v fs rest) ≡ stated_pools text rest
pools_funs text v [] rest = refl
pools_funs text (first vars width) (r ∷ fs) rest =
    pools_rules text r.rules (funs_then (first vars width) fs rest) ∙ pools_funs text (first vars width) fs rest
pools_funs text second (r ∷ fs) rest = pools_rules text r.rules (funs_then second fs rest) ∙ pools_funs text second fs rest
pools_funs text third (r ∷ fs) rest = pools_rules text r.rules (funs_then third fs rest) ∙ pools_funs text third fs rest

pools_sides : (text : Whole) (es : List SidesRow) (rest : List RawLine) → stated_pools text (background_then es rest) ≡ stated_pools text rest
pools_sides text [] rest = refl
pools_sides text (e ∷ es) rest = pools_sides text es rest

abbrev pub stated_row : Whole → ValuesRow → List Tree
stated_row text v = map (stated_tree text) v.values

values_first : (text : Whole) (vs : List ValuesRow) (rest : List RawLine) → stated_values text rest ≡ [] → stated_values text (values_then vs rest) ≡ map (stated_row text) vs
values_first text [] rest e = e
values_first text (v ∷ vs) rest e = ap (λ z. stated_row text v ∷ z) (values_first text vs rest e)

pools_values : (text : Whole) (vs : List ValuesRow) (rest : List RawLine) → stated_pools text (values_then vs rest) ≡ stated_pools text rest
pools_values text [] rest = refl
pools_values text (v ∷ vs) rest = pools_values text vs rest

no_values : (text : Whole) (ps : List (List ValuesRow)) → stated_values text (pools_then ps (line.End ∷ [])) ≡ []
no_values text [] = refl
no_values text (p ∷ ps) = refl

given_pools : (text : Whole) (ps : List (List ValuesRow)) → stated_pools text (pools_then ps (line.End ∷ [])) ≡ map (map (stated_row text)) ps
given_pools text [] = refl
given_pools text (p ∷ ps) = ap₂ ◌∷◌ (values_first text p (pools_then ps (line.End ∷ [])) (no_values text ps))
    (pools_values text p (pools_then ps (line.End ∷ [])) ∙ given_pools text ps)

abbrev pub stated_pool_rule : Whole → PoolRows → PoolRule
stated_pool_rule text (given ps) = rule.Given (map (map (stated_row text)) ps)
stated_pool_rule text (seeded s h c) = rule.Seeded s (short h) (short c)

pub told_pools : (text : Whole) (l : Layout) → stated_rule text (layout_lines l) ≡ stated_pool_rule text l.pools
told_pools text l = by l.version ∙ of l.pools refl
  where
    by : (v : Version) → stated_rule text (start_then v l.size l.budget l.pairs l.pools (declared_lines l)) ≡ stated_rule text (rule_line l.pools ∷ declared_lines l)
    by (first vars width) = refl
    by second = refl
    by third = refl

    of : (ps : PoolRows) → l.pools ≡ ps → stated_rule text (rule_line ps ∷ declared_lines l) ≡ stated_pool_rule text ps
    of (given ps) e = ap rule.Given (pools_sorts text l.version l.sorts (funs_then l.version l.funs (tail_lines l))
        ∙ pools_funs text l.version l.funs (tail_lines l) ∙ pools_sides text l.background (pool_lines l.pools)
        ∙ ap (λ z. stated_pools text (pool_lines z)) e ∙ given_pools text ps)
    of (seeded s h c) e = refl

-- Symbols

abbrev pub con_sym : List (List ℕ) → ℕ → ConRow → Sym
con_sym sorts n c = sym.Con (record { sort = record { 0 = n }; args = map (sort_id sorts) c.args })

abbrev pub con_syms : List (List ℕ) → ℕ → List SortRow → List Sym
con_syms sorts n [] = []
con_syms sorts n (s ∷ ss) = map (con_sym sorts n) s.cons ++ con_syms sorts (suc n) ss

abbrev pub fun_sym : Whole → FunRow → List RawLine → Sym
fun_sym text r lines = sym.Fun (record {
  args = map (sort_id text.sorts) r.args;
  result = sort_id text.sorts r.result;
  place = stated_place lines;
  cases = stated_bodies text (map (sort_id text.sorts) r.args) lines;
})

abbrev pub fun_syms : Whole → Version → List FunRow → List RawLine → List Sym
fun_syms text v [] tail = []
fun_syms text v (r ∷ fs) tail = fun_sym text r (rules_then r.rules (funs_then v fs tail)) ∷ fun_syms text v fs tail

less_one : (n : ℕ) → suc n - 1 ≡ n
less_one n = omega arith

con_is : (text : Whole) (n : ℕ) (c : ConRow) → ◌≡◌ {A = Sym} (sym.Con (record { sort = record { 0 = suc n - 1 }; args = map (sort_id text.sorts) c.args })) (con_sym text.sorts n c)
con_is text n c = ap (λ k. sym.Con (record { sort = record { 0 = k }; args = map (sort_id text.sorts) c.args })) (less_one n)

syms_cons : (text : Whole) (n : ℕ) (v : Version) (cs : List ConRow) (rest : List RawLine)
    → stated_symbols text (suc n) (cons_then v cs rest) ≡ map (con_sym text.sorts n) cs ++ stated_symbols text (suc n) rest
syms_cons text n v [] rest = refl
syms_cons text n (first vars width) (c ∷ cs) rest = ap₂ ◌∷◌ (con_is text n c) (syms_cons text n (first vars width) cs rest)
syms_cons text n second (c ∷ cs) rest = ap₂ ◌∷◌ (con_is text n c) (syms_cons text n second cs rest)
syms_cons text n third (c ∷ cs) rest = ap₂ ◌∷◌ (con_is text n c) (syms_cons text n third cs rest)

syms_sort : (text : Whole) (n : ℕ) (v : Version) (s : SortRow) (rest : List RawLine)
    → stated_symbols text n (sort_line v s ∷ cons_then v s.cons rest) ≡ map (con_sym text.sorts n) s.cons ++ stated_symbols text (suc n) rest
syms_sort text n (first vars width) s rest = syms_cons text n (first vars width) s.cons rest
syms_sort text n second s rest = syms_cons text n second s.cons rest
syms_sort text n third s rest = syms_cons text n third s.cons rest

syms_sorts : (text : Whole) (v : Version) (ss : List SortRow) (n : ℕ) (rest : List RawLine) (ends : List Sym) → ((m : ℕ) → stated_symbols text m rest ≡ ends)
    → stated_symbols text n (sorts_then v ss rest) ≡ con_syms text.sorts n ss ++ ends
syms_sorts text v [] n rest ends e = e n
syms_sorts text v (s ∷ ss) n rest ends e = syms_sort text n v s (sorts_then v ss rest)
    ∙ ap (λ z. map (con_sym text.sorts n) s.cons ++ z) (syms_sorts text v ss (suc n) rest ends e)
    ∙ sym (append_assoc (map (con_sym text.sorts n) s.cons) (con_syms text.sorts (suc n) ss) ends)

syms_cases : (text : Whole) (m : ℕ) (cs : List CaseRow) (rest : List RawLine) → stated_symbols text m (cases_then cs rest) ≡ stated_symbols text m rest
syms_cases text m [] rest = refl
syms_cases text m (c ∷ cs) rest = syms_cases text m cs rest

syms_rules : (text : Whole) (m : ℕ) (r : Rules) (rest : List RawLine) → stated_symbols text m (rules_then r rest) ≡ stated_symbols text m rest
syms_rules text m (single t) rest = refl
syms_rules text m (matching n cs) rest = syms_cases text m cs rest

syms_funs : (text : Whole) (m : ℕ) (v : Version) (fs : List FunRow) (tail : List RawLine) → stated_symbols text m tail ≡ []
    → stated_symbols text m (funs_then v fs tail) ≡ fun_syms text v fs tail
syms_funs text m v [] tail e = e
syms_funs text m (first vars width) (r ∷ fs) tail e = ap (λ z. fun_sym text r (rules_then r.rules (funs_then (first vars width) fs tail)) ∷ z)
    (syms_rules text m r.rules (funs_then (first vars width) fs tail) ∙ syms_funs text m (first vars width) fs tail e)
syms_funs text m second (r ∷ fs) tail e = ap (λ z. fun_sym text r (rules_then r.rules (funs_then second fs tail)) ∷ z)
    (syms_rules text m r.rules (funs_then second fs tail) ∙ syms_funs text m second fs tail e)
syms_funs text m third (r ∷ fs) tail e = ap (λ z. fun_sym text r (rules_then r.rules (funs_then third fs tail)) ∷ z)
    (syms_rules text m r.rules (funs_then third fs tail) ∙ syms_funs text m third fs tail e)

syms_sides : (text : Whole) (m : ℕ) (es : List SidesRow) (rest : List RawLine) → stated_symbols text m (background_then es rest) ≡ stated_symbols text m rest
syms_sides text m [] rest = refl
syms_sides text m (e ∷ es) rest = syms_sides text m es rest

syms_values : (text : Whole) (m : ℕ) (vs : List ValuesRow) (rest : List RawLine) → stated_symbols text m (values_then vs rest) ≡ stated_symbols text m rest
syms_values text m [] rest = refl
syms_values text m (v ∷ vs) rest = syms_values text m vs rest

syms_pools : (text : Whole) (m : ℕ) (ps : List (List ValuesRow)) → stated_symbols text m (pools_then ps (line.End ∷ [])) ≡ []
syms_pools text m [] = refl
syms_pools text m (p ∷ ps) = syms_values text m p (pools_then ps (line.End ∷ [])) ∙ syms_pools text m ps

syms_ends : (text : Whole) (m : ℕ) (ps : PoolRows) → stated_symbols text m (pool_lines ps) ≡ []
syms_ends text m (given ps) = syms_pools text m ps
syms_ends text m (seeded s h c) = refl

pub told_symbols : (text : Whole) (l : Layout) → stated_symbols text 0 (layout_lines l) ≡ con_syms text.sorts 0 l.sorts ++ fun_syms text l.version l.funs (tail_lines l)
told_symbols text l = by l.version l.pools
    ∙ syms_sorts text l.version l.sorts 0 (funs_then l.version l.funs (tail_lines l)) (fun_syms text l.version l.funs (tail_lines l))
    (λ m. syms_funs text m l.version l.funs (tail_lines l) (syms_sides text m l.background (pool_lines l.pools) ∙ syms_ends text m l.pools))
  where
    by : (v : Version) (ps : PoolRows) → stated_symbols text 0 (start_then v l.size l.budget l.pairs ps (declared_lines l)) ≡ stated_symbols text 0 (declared_lines l)
    by (first vars width) (given ps) = refl
    by (first vars width) (seeded s h c) = refl
    by second (given ps) = refl
    by second (seeded s h c) = refl
    by third (given ps) = refl
    by third (seeded s h c) = refl
