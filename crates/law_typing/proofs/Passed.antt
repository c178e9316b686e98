-- What is known of each part of a text where no line shows a fault.
use Rattle.std.proofs.Common.{◌≡◌, ℕ, ◌+◌, List, [], ◌∷◌, length, true, false, true≢false, not, nat_le, eqb-true, leb-true, is_some, Option, Some, None, slice_get, arith, refl, sym, ap, ◌∙◌, subst}
use Rattle.std.specs.Option.{option_or}
use Rattle.law_sig.specs.Lists.{Each}
use Rattle.law_sig.specs.WellFormed.{IsBetween}
use Rattle.law_sig.specs.declared.tree.SortId.{SortId}
use Rattle.law_laws.proofs.BodyFacts.{none_is}
use Rattle.law_laws.proofs.Sorts.{both_true}
use Rattle.law_lines.specs.declared.raw.RawLine.{RawLine}
use Rattle.law_lines.specs.declared.raw.RawLine.TheVariants as line
use Rattle.law_typing.specs.Names.{number_of, stands_before}
use Rattle.law_typing.specs.Declarations.{has_value}
use Rattle.law_typing.specs.TermFaults.{fault_if, mismatch, wanted_of}
use Rattle.law_typing.specs.LineFaults.{after_sort, after_symbol, after_match, after_case, after_pool, after_values, nothing_seen, seen_after, out_of, some_too_low, sort_faults, unknown_sort, unknown_sorts, name_faults, con_faults, fun_faults, own_symbol, body_fault, case_names, match_faults, case_faults, explored_faults, background_faults, values_count, each_value_fault, is_width, values_faults, line_fault, fault_at, faults_from}
use Rattle.law_typing.specs.Typed.{Version}
use Rattle.law_typing.specs.Typed.Version.{first, second, third}
use Rattle.law_typing.specs.declared.errors.TypeErr.{TypeErr}
use Rattle.law_typing.specs.declared.errors.TypeErr.TheVariants as err
use Rattle.law_typing.specs.declared.errors.TypeKind.{TypeKind}
use Rattle.law_typing.specs.declared.errors.TypeKind.TheVariants as kind
use Rattle.law_typing.specs.declared.seen.Seen.{Seen}
use Rattle.law_typing.specs.declared.whole.Whole.{Whole}
use Rattle.law_typing.proofs.Laid.{ConRow, SortRow, CaseRow, Rules, FunRow, SidesRow, ValuesRow, PoolRows, Layout, con_line, sort_line, fun_line, cons_then, sorts_then, cases_then, rules_then, funs_then, background_then, values_then, pools_then, pool_lines, rule_line, start_then, tail_lines, declared_lines, layout_lines, FitsSort, FitsCon, FitsFun, FitsSortRow}
use Rattle.law_typing.proofs.Laid.Rules.{single, matching}
use Rattle.law_typing.proofs.Laid.PoolRows.{given, seeded}
use Rattle.law_typing.proofs.TermSound.{fault_none, neither, not_false, wanted_is}

pub record Both (P Q : Type 0) : Type 0 where
  pub one : P
  pub other : Q

-- No line shows a fault

abbrev pub NoFaults : Whole → Seen → List RawLine → Type 0
NoFaults text seen [] = Unit {0}
NoFaults text seen (l ∷ lines) = (line_fault text seen lines l ≡ None) × NoFaults text (seen_after seen l) lines

no_err : {G : Type 0} (x : TypeErr) → ◌≡◌ {A = Option TypeErr} (Some x) None → G
no_err x e = cc

pub no_faults : (text : Whole) (seen : Seen) (number : ℕ) (lines : List RawLine) → faults_from text seen number lines ≡ None → NoFaults text seen lines
no_faults text seen number [] e = tt
no_faults text seen number (l ∷ lines) e = by (line_fault text seen lines l) refl e (no_faults text (seen_after seen l) (number + 1) lines)
  where
    by : (o : Option TypeKind) → line_fault text seen lines l ≡ o → fault_at number o (faults_from text (seen_after seen l) (number + 1) lines) ≡ None
        → (faults_from text (seen_after seen l) (number + 1) lines ≡ None → NoFaults text (seen_after seen l) lines) → NoFaults text seen (l ∷ lines)
    by None k h rest = (k, rest h)
    by (Some fault) k h rest = no_err (err.At number fault) h

pub faults_none : (text : Whole) (seen : Seen) (number : ℕ) (lines : List RawLine) → NoFaults text seen lines → faults_from text seen number lines ≡ None
faults_none text seen number [] h = refl
faults_none text seen number (l ∷ lines) h = ap (λ o. fault_at number o (faults_from text (seen_after seen l) (number + 1) lines)) h.0
    ∙ faults_none text (seen_after seen l) (number + 1) lines h.1

-- Ranges

pub in_range : (low high n : ℕ) → out_of low high n ≡ None → IsBetween low high n
in_range low high n e =
    let b = both_true (nat_le low n) (nat_le n high) (not_false _ (fault_none _ kind.SettingRange e)) in
    (leb-true low n b.0, leb-true n high b.1)

-- Sorts and constructors

pub record SortGood (text : Whole) (seen : Seen) (s : SortRow) : Type 0 where
  pub low : nat_le 64 seen.sorts ≡ false
  pub fresh : stands_before text.sorts seen.sorts s.name ≡ false
  pub valued : has_value text (record { 0 = seen.sorts }) ≡ true
  pub vars : IsBetween 0 8 s.vars
  pub width : IsBetween 1 16 s.width

abbrev pub IsKnown : Whole → List ℕ → Type 0
IsKnown text name = is_some (number_of text.sorts name) ≡ true

pub record NameGood (text : Whole) (seen : Seen) (name : List ℕ) : Type 0 where
  pub low : nat_le 4294967295 seen.symbols ≡ false
  pub fresh : stands_before text.names seen.symbols name ≡ false

pub record ConGood (text : Whole) (seen : Seen) (c : ConRow) : Type 0 where
  pub name : NameGood text seen c.name
  pub args : Each (IsKnown text) c.args
  pub weight : IsBetween 1 4 c.weight

pub record FunGood (text : Whole) (seen : Seen) (r : FunRow) : Type 0 where
  pub name : NameGood text seen r.name
  pub args : Each (IsKnown text) r.args
  pub result : IsKnown text r.result
  pub weight : IsBetween 1 4 r.weight

abbrev pub VersionGood : Version → Type 0
VersionGood (first vars width) = IsBetween 0 8 vars × IsBetween 1 16 width
VersionGood second = Unit {0}
VersionGood third = Unit {0}

name_good : (text : Whole) (seen : Seen) (name : List ℕ) → name_faults text seen name ≡ None → NameGood text seen name
name_good text seen name e =
    let a = neither (fault_if (nat_le 4294967295 seen.symbols) kind.SettingRange) _ e in
    record { low = fault_none _ kind.SettingRange a.0; fresh = fault_none _ kind.NameTwice a.1 }

known : (text : Whole) (name : List ℕ) → unknown_sort text name ≡ None → IsKnown text name
known text name e = not_false _ (fault_none _ kind.UnknownSort e)

all_known : (text : Whole) (names : List (List ℕ)) → unknown_sorts text names ≡ None → Each (IsKnown text) names
all_known text [] e = tt
all_known text (n ∷ names) e = let a = neither (unknown_sort text n) _ e in (known text n a.0, all_known text names a.1)

sort_base : (text : Whole) (seen : Seen) (s : SortRow) → sort_faults text seen s.name ≡ None → IsBetween 0 8 s.vars → IsBetween 1 16 s.width → SortGood text seen s
sort_base text seen s e vars width =
    let a = neither (fault_if (nat_le 64 seen.sorts) kind.SettingRange) _ e in
    let b = neither (fault_if (stands_before text.sorts seen.sorts s.name) kind.NameTwice) _ a.1 in
    record { low = fault_none _ kind.SettingRange a.0; fresh = fault_none _ kind.NameTwice b.0; valued = not_false _ (fault_none _ kind.EmptySort b.1); vars = vars; width = width }

sort_good : (text : Whole) (v : Version) (seen : Seen) (s : SortRow) (rest : List RawLine) → VersionGood v → FitsSort v s
    → line_fault text seen rest (sort_line v s) ≡ None → SortGood text seen s
sort_good text (first vars width) seen s rest good fit e =
    sort_base text seen s e (subst (IsBetween 0 8) (sym fit.0) good.0) (subst (IsBetween 1 16) (sym fit.1) good.1)
sort_good text second seen s rest good fit e =
    let a = neither (sort_faults text seen s.name) _ e in
    let b = neither (out_of 0 8 s.vars) _ a.1 in
    sort_base text seen s a.0 (in_range 0 8 s.vars b.0) (in_range 1 16 s.width b.1)
sort_good text third seen s rest good fit e =
    let a = neither (sort_faults text seen s.name) _ e in
    let b = neither (out_of 0 8 s.vars) _ a.1 in
    sort_base text seen s a.0 (in_range 0 8 s.vars b.0) (in_range 1 16 s.width b.1)

one_weight : (n : ℕ) → n ≡ 1 → IsBetween 1 4 n
one_weight n e = (omega arith, omega arith)

con_good : (text : Whole) (v : Version) (seen : Seen) (c : ConRow) (rest : List RawLine) → FitsCon v c
    → line_fault text seen rest (con_line v c) ≡ None → ConGood text seen c
con_good text (first vars width) seen c rest fit e =
    let a = neither (name_faults text seen c.name) _ e in
    record { name = name_good text seen c.name a.0; args = all_known text c.args a.1; weight = one_weight c.weight fit }
con_good text second seen c rest fit e =
    let a = neither (name_faults text seen c.name) _ e in
    record { name = name_good text seen c.name a.0; args = all_known text c.args a.1; weight = one_weight c.weight fit }
con_good text third seen c rest fit e =
    let b = neither (con_faults text seen c.name c.args) _ e in
    let a = neither (name_faults text seen c.name) _ b.0 in
    record { name = name_good text seen c.name a.0; args = all_known text c.args a.1; weight = in_range 1 4 c.weight b.1 }

fun_base : (text : Whole) (seen : Seen) (r : FunRow) → fun_faults text seen r.name r.args r.result ≡ None → IsBetween 1 4 r.weight → FunGood text seen r
fun_base text seen r e weight =
    let a = neither (name_faults text seen r.name) _ e in
    let b = neither (unknown_sorts text r.args) _ a.1 in
    record { name = name_good text seen r.name a.0; args = all_known text r.args b.0; result = known text r.result b.1; weight = weight }

fun_good : (text : Whole) (v : Version) (seen : Seen) (r : FunRow) (rest : List RawLine) → FitsFun v r
    → line_fault text seen rest (fun_line v r) ≡ None → FunGood text seen r
fun_good text (first vars width) seen r rest fit e = fun_base text seen r e (one_weight r.weight fit)
fun_good text second seen r rest fit e = fun_base text seen r e (one_weight r.weight fit)
fun_good text third seen r rest fit e =
    let b = neither (fun_faults text seen r.name r.args r.result) _ e in fun_base text seen r b.0 (in_range 1 4 r.weight b.1)

abbrev pub cons_seen : Seen → List ConRow → Seen
cons_seen seen [] = seen
cons_seen seen (c ∷ cs) = cons_seen (after_symbol seen) cs

abbrev pub sorts_seen : Seen → List SortRow → Seen
sorts_seen seen [] = seen
sorts_seen seen (s ∷ ss) = sorts_seen (cons_seen (after_sort seen) s.cons) ss

abbrev pub ConsGood : Whole → Seen → List ConRow → Type 0
ConsGood text seen [] = Unit {0}
ConsGood text seen (c ∷ cs) = ConGood text seen c × ConsGood text (after_symbol seen) cs

abbrev pub SortsGood : Whole → Seen → List SortRow → Type 0
SortsGood text seen [] = Unit {0}
SortsGood text seen (s ∷ ss) = SortGood text seen s × ConsGood text (after_sort seen) s.cons × SortsGood text (cons_seen (after_sort seen) s.cons) ss

seen_sort : (seen : Seen) (v : Version) (s : SortRow) → seen_after seen (sort_line v s) ≡ after_sort seen
seen_sort seen (first vars width) s = refl
seen_sort seen second s = refl
seen_sort seen third s = refl

seen_con : (seen : Seen) (v : Version) (c : ConRow) → seen_after seen (con_line v c) ≡ after_symbol seen
seen_con seen (first vars width) c = refl
seen_con seen second c = refl
seen_con seen third c = refl

seen_fun : (seen : Seen) (v : Version) (r : FunRow) → seen_after seen (fun_line v r) ≡ after_symbol seen
seen_fun seen (first vars width) r = refl
seen_fun seen second r = refl
seen_fun seen third r = refl

cons_pass : (text : Whole) (v : Version) (seen : Seen) (cs : List ConRow) (rest : List RawLine) → Each (FitsCon v) cs → NoFaults text seen (cons_then v cs rest)
    → Both (ConsGood text seen cs) (NoFaults text (cons_seen seen cs) rest)
cons_pass text v seen [] rest fit h = record { one = tt; other = h }
cons_pass text v seen (c ∷ cs) rest fit h =
    let r = cons_pass text v (after_symbol seen) cs rest fit.1 (subst (λ z. NoFaults text z (cons_then v cs rest)) (seen_con seen v c) h.1) in
    record { one = (con_good text v seen c (cons_then v cs rest) fit.0 h.0, r.one); other = r.other }

sorts_pass : (text : Whole) (v : Version) (seen : Seen) (ss : List SortRow) (rest : List RawLine) → VersionGood v → Each (FitsSortRow v) ss
    → NoFaults text seen (sorts_then v ss rest) → Both (SortsGood text seen ss) (NoFaults text (sorts_seen seen ss) rest)
sorts_pass text v seen [] rest good fit h = record { one = tt; other = h }
sorts_pass text v seen (s ∷ ss) rest good fit h =
    let c = cons_pass text v (after_sort seen) s.cons (sorts_then v ss rest) fit.0.1
    (subst (λ z. NoFaults text z (cons_then v s.cons (sorts_then v ss rest))) (seen_sort seen v s) h.1) in
    let r = sorts_pass text v (cons_seen (after_sort seen) s.cons) ss rest good fit.1 c.other in
    record { one = (sort_good text v seen s (cons_then v s.cons (sorts_then v ss rest)) good fit.0.0 h.0, c.one, r.one); other = r.other }

-- Functions

abbrev pub cases_seen : Seen → List CaseRow → Seen
cases_seen seen [] = seen
cases_seen seen (c ∷ cs) = cases_seen (after_case c.con seen) cs

abbrev pub rules_seen : Seen → Rules → Seen
rules_seen seen (single t) = seen
rules_seen seen (matching n cs) = cases_seen (after_match n seen) cs

abbrev pub funs_seen : Seen → List FunRow → Seen
funs_seen seen [] = seen
funs_seen seen (r ∷ fs) = funs_seen (rules_seen (after_symbol seen) r.rules) fs

abbrev pub CasesGood : Whole → Seen → List CaseRow → Type 0
CasesGood text seen [] = Unit {0}
CasesGood text seen (c ∷ cs) = (case_faults text seen c.con c.body (number_of text.names c.con) ≡ None) × CasesGood text (after_case c.con seen) cs

abbrev pub RulesGood : Whole → Seen → Rules → List RawLine → Type 0
RulesGood text seen (single t) rest = body_fault text seen [] t ≡ None
RulesGood text seen (matching n cs) rest =
    (match_faults text (case_names (cases_then cs rest)) (slice_get (wanted_of (own_symbol text seen)) n) ≡ None) × CasesGood text (after_match n seen) cs

abbrev pub FunsGood : Whole → Version → Seen → List FunRow → List RawLine → Type 0
FunsGood text v seen [] tail = Unit {0}
FunsGood text v seen (r ∷ fs) tail = FunGood text seen r × RulesGood text (after_symbol seen) r.rules (funs_then v fs tail)
    × FunsGood text v (rules_seen (after_symbol seen) r.rules) fs tail

cases_pass : (text : Whole) (seen : Seen) (cs : List CaseRow) (rest : List RawLine) → NoFaults text seen (cases_then cs rest)
    → Both (CasesGood text seen cs) (NoFaults text (cases_seen seen cs) rest)
cases_pass text seen [] rest h = record { one = tt; other = h }
cases_pass text seen (c ∷ cs) rest h = let r = cases_pass text (after_case c.con seen) cs rest h.1 in record { one = (h.0, r.one); other = r.other }

rules_pass : (text : Whole) (seen : Seen) (r : Rules) (rest : List RawLine) → NoFaults text seen (rules_then r rest)
    → Both (RulesGood text seen r rest) (NoFaults text (rules_seen seen r) rest)
rules_pass text seen (single t) rest h = record { one = h.0; other = h.1 }
rules_pass text seen (matching n cs) rest h = let c = cases_pass text (after_match n seen) cs rest h.1 in record { one = (h.0, c.one); other = c.other }

funs_pass : (text : Whole) (v : Version) (seen : Seen) (fs : List FunRow) (tail : List RawLine) → Each (FitsFun v) fs → NoFaults text seen (funs_then v fs tail)
    → Both (FunsGood text v seen fs tail) (NoFaults text (funs_seen seen fs) tail)
funs_pass text v seen [] tail fit h = record { one = tt; other = h }
funs_pass text v seen (r ∷ fs) tail fit h =
    let c = rules_pass text (after_symbol seen) r.rules (funs_then v fs tail)
    (subst (λ z. NoFaults text z (rules_then r.rules (funs_then v fs tail))) (seen_fun seen v r) h.1) in
    let m = funs_pass text v (rules_seen (after_symbol seen) r.rules) fs tail fit.1 c.other in
    record { one = (fun_good text v seen r (rules_then r.rules (funs_then v fs tail)) fit.0 h.0, c.one, m.one); other = m.other }

-- Background and pools

abbrev pub SidesGood : Whole → SidesRow → Type 0
SidesGood text e = background_faults text e.left e.right ≡ None

sides_pass : (text : Whole) (seen : Seen) (es : List SidesRow) (rest : List RawLine) → NoFaults text seen (background_then es rest)
    → Both (Each (SidesGood text) es) (NoFaults text seen rest)
sides_pass text seen [] rest h = record { one = tt; other = h }
sides_pass text seen (e ∷ es) rest h = let r = sides_pass text seen es rest h.1 in record { one = (h.0, r.one); other = r.other }

-- values of the sort with this number
pub record RowGood (text : Whole) (k : ℕ) (v : ValuesRow) : Type 0 where
  pub sort : number_of text.sorts v.sort ≡ Some k
  pub width : slice_get text.widths k ≡ Some (length v.values)
  pub each : each_value_fault text (record { 0 = k }) v.values ≡ None

abbrev pub RowsGood : Whole → ℕ → List ValuesRow → Type 0
RowsGood text k [] = Unit {0}
RowsGood text k (v ∷ vs) = RowGood text k v × RowsGood text (k + 1) vs

pub record PoolGood (text : Whole) (number : ℕ) (p : List ValuesRow) : Type 0 where
  pub low : nat_le 16 number ≡ false
  pub count : length p ≡ length text.sorts
  pub rows : RowsGood text 0 p

abbrev pub PoolsGood : Whole → ℕ → List (List ValuesRow) → Type 0
PoolsGood text number [] = Unit {0}
PoolsGood text number (p ∷ ps) = PoolGood text number p × PoolsGood text (number + 1) ps

width_is : (text : Whole) (count k : ℕ) (o : Option ℕ) → is_width count o ≡ true → o ≡ Some count
width_is text count k None e = absurd (true≢false (sym e))
width_is text count k (Some w) e = ap Some (sym (eqb-true count w e))

row_good : (text : Whole) (seen : Seen) (v : ValuesRow) → values_faults text seen v.values (number_of text.sorts v.sort) ≡ None → RowGood text seen.values v
row_good text seen v e = by (number_of text.sorts v.sort) refl e
  where
    id : ℕ → SortId
    id n = record { 0 = n }

    by : (o : Option ℕ) → number_of text.sorts v.sort ≡ o → values_faults text seen v.values o ≡ None → RowGood text seen.values v
    by None k h = none_is kind.UnknownSort (sym h)
    by (Some n) k h =
        let a = neither (mismatch (Some (record { 0 = seen.values })) (record { 0 = n })) _ h in
        let b = neither (fault_if (not (is_width (length v.values) (slice_get text.widths n))) kind.Arity) _ a.1 in
        let same : seen.values ≡ n = ap (λ (s : SortId). s.0) (wanted_is (record { 0 = seen.values }) (record { 0 = n }) a.0) in
        record {
          sort = k ∙ ap Some (sym same);
          width = ap (slice_get text.widths) same ∙ width_is text (length v.values) n (slice_get text.widths n) (not_false _ (fault_none _ kind.Arity b.0));
          each = ap (λ m. each_value_fault text (record { 0 = m }) v.values) same ∙ b.1;
        }

abbrev rows_seen : Seen → List ValuesRow → Seen
rows_seen seen [] = seen
rows_seen seen (v ∷ vs) = rows_seen (after_values seen) vs

rows_pass : (text : Whole) (seen : Seen) (vs : List ValuesRow) (rest : List RawLine) → NoFaults text seen (values_then vs rest)
    → Both (RowsGood text seen.values vs) (NoFaults text (rows_seen seen vs) rest)
rows_pass text seen [] rest h = record { one = tt; other = h }
rows_pass text seen (v ∷ vs) rest h = let r = rows_pass text (after_values seen) vs rest h.1 in record { one = (row_good text seen v h.0, r.one); other = r.other }

rows_pools : (seen : Seen) (vs : List ValuesRow) → (rows_seen seen vs).pools ≡ seen.pools
rows_pools seen [] = refl
rows_pools seen (v ∷ vs) = rows_pools (after_values seen) vs

count_is : (vs : List ValuesRow) (rest : List RawLine) → values_count rest ≡ 0 → values_count (values_then vs rest) ≡ length vs
count_is [] rest e = e
count_is (v ∷ vs) rest e = let r = count_is vs rest e in omega arith

no_more : (ps : List (List ValuesRow)) → values_count (pools_then ps (line.End ∷ [])) ≡ 0
no_more [] = refl
no_more (p ∷ ps) = refl

pub pools_pass : (text : Whole) (seen : Seen) (ps : List (List ValuesRow)) → NoFaults text seen (pools_then ps (line.End ∷ [])) → PoolsGood text seen.pools ps
pools_pass text seen [] h = tt
pools_pass text seen (p ∷ ps) h =
    let rest = pools_then ps (line.End ∷ []) in
    let a = neither (fault_if (nat_le 16 seen.pools) kind.SettingRange) _ h.0 in
    let c : values_count (values_then p rest) ≡ length text.sorts = eqb-true _ _ (not_false _ (fault_none _ kind.Arity a.1)) in
    let r = rows_pass text (after_pool seen) p rest h.1 in
    let m = pools_pass text (rows_seen (after_pool seen) p) ps r.other in (
      record { low = fault_none _ kind.SettingRange a.0; count = sym (count_is p rest (no_more ps)) ∙ c; rows = r.one },
      subst (λ n. PoolsGood text n ps) (rows_pools (after_pool seen) p) m,
    )

abbrev pub EndsGood : Whole → PoolRows → Type 0
EndsGood text (given ps) = PoolsGood text 0 ps
EndsGood text (seeded s h c) = IsBetween 1 16 h × IsBetween 1 16 c × (some_too_low text h 0 (length text.sorts) ≡ false)

-- The whole text

pub record StartGood (text : Whole) (l : Layout) : Type 0 where
  pub version : VersionGood l.version
  pub size : IsBetween 1 32 l.size
  pub budget : IsBetween 1 1000000 l.budget
  pub pairs : IsBetween 0 4096 l.pairs
  pub rest : NoFaults text nothing_seen (rule_line l.pools ∷ declared_lines l)

setting : (low high n : ℕ) → option_or (out_of low high n) None ≡ None → IsBetween low high n
setting low high n e = in_range low high n (neither (out_of low high n) None e).0

start_pass : (text : Whole) (l : Layout) (v : Version) → l.version ≡ v → NoFaults text nothing_seen (start_then v l.size l.budget l.pairs l.pools (declared_lines l)) → StartGood text l
start_pass text l (first vars width) e h = record {
  version = subst VersionGood (sym e) (setting 0 8 vars h.1.0, setting 1 16 width h.1.1.1.0);
  size = setting 1 32 l.size h.1.1.0;
  budget = setting 1 1000000 l.budget h.1.1.1.1.0;
  pairs = setting 0 4096 l.pairs h.1.1.1.1.1.0;
  rest = h.1.1.1.1.1.1;
}
start_pass text l second e h = record {
  version = subst VersionGood (sym e) tt;
  size = setting 1 32 l.size h.1.0;
  budget = setting 1 1000000 l.budget h.1.1.0;
  pairs = setting 0 4096 l.pairs h.1.1.1.0;
  rest = h.1.1.1.1;
}
start_pass text l third e h = record {
  version = subst VersionGood (sym e) tt;
  size = setting 1 32 l.size h.1.0;
  budget = setting 1 1000000 l.budget h.1.1.0;
  pairs = setting 0 4096 l.pairs h.1.1.1.0;
  rest = h.1.1.1.1;
}

pub record AllGood (text : Whole) (l : Layout) : Type 0 where
  pub start : StartGood text l
  pub sorts : SortsGood text nothing_seen l.sorts
  pub funs : FunsGood text l.version (sorts_seen nothing_seen l.sorts) l.funs (tail_lines l)
  pub explored : explored_faults text [] l.explored ≡ None
  pub background : Each (SidesGood text) l.background
  pub ends : EndsGood text l.pools

cons_pools : (seen : Seen) (cs : List ConRow) → (cons_seen seen cs).pools ≡ seen.pools
cons_pools seen [] = refl
cons_pools seen (c ∷ cs) = cons_pools (after_symbol seen) cs

pub sorts_pools : (seen : Seen) (ss : List SortRow) → (sorts_seen seen ss).pools ≡ seen.pools
sorts_pools seen [] = refl
sorts_pools seen (s ∷ ss) = sorts_pools (cons_seen (after_sort seen) s.cons) ss ∙ cons_pools (after_sort seen) s.cons

cases_pools : (seen : Seen) (cs : List CaseRow) → (cases_seen seen cs).pools ≡ seen.pools
cases_pools seen [] = refl
cases_pools seen (c ∷ cs) = cases_pools (after_case c.con seen) cs

rules_pools : (seen : Seen) (r : Rules) → (rules_seen seen r).pools ≡ seen.pools
rules_pools seen (single t) = refl
rules_pools seen (matching n cs) = cases_pools (after_match n seen) cs

pub funs_pools : (seen : Seen) (fs : List FunRow) → (funs_seen seen fs).pools ≡ seen.pools
funs_pools seen [] = refl
funs_pools seen (r ∷ fs) = funs_pools (rules_seen (after_symbol seen) r.rules) fs ∙ rules_pools (after_symbol seen) r.rules

pub all_good : (text : Whole) (l : Layout) → Each (FitsSortRow l.version) l.sorts → Each (FitsFun l.version) l.funs → NoFaults text nothing_seen (layout_lines l) → AllGood text l
all_good text l fit fits h =
    let s = start_pass text l l.version refl h in
    let a = sorts_pass text l.version nothing_seen l.sorts (funs_then l.version l.funs (tail_lines l)) s.version fit (declared l.pools s.rest) in
    let f = funs_pass text l.version (sorts_seen nothing_seen l.sorts) l.funs (tail_lines l) fits a.other in
    let after = funs_seen (sorts_seen nothing_seen l.sorts) l.funs in
    let b = sides_pass text after l.background (pool_lines l.pools) f.other.1 in
    let no_pools : after.pools ≡ 0 = funs_pools (sorts_seen nothing_seen l.sorts) l.funs ∙ sorts_pools nothing_seen l.sorts in
    record { start = s; sorts = a.one; funs = f.one; explored = f.other.0; background = b.one; ends = ends after l.pools no_pools s.rest b.other }
  where
    declared : (ps : PoolRows) → NoFaults text nothing_seen (rule_line ps ∷ declared_lines l) → NoFaults text nothing_seen (declared_lines l)
    declared (given ps) h = h.1
    declared (seeded s h' c) h = h.1

    ends : (seen : Seen) (ps : PoolRows) → seen.pools ≡ 0 → NoFaults text nothing_seen (rule_line ps ∷ declared_lines l) → NoFaults text seen (pool_lines ps) → EndsGood text ps
    ends seen (given ps) none r h = subst (λ n. PoolsGood text n ps) none (pools_pass text seen ps h)
    ends seen (seeded s height count) none r h =
        let a = neither (out_of 1 16 height) _ r.0 in
        let b = neither (out_of 1 16 count) _ a.1 in
        (in_range 1 16 height a.0, in_range 1 16 count b.0, fault_none _ kind.SettingRange b.1)
