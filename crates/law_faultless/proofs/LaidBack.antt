-- The lines of a signature in their parts.
use Rattle.std.proofs.Common.{◌≡◌, ◌≢◌, ℕ, zero, suc, ◌+◌, ◌<◌, ◌≤◌, List, [], ◌∷◌, ◌++◌, ◌⊎◌, inl, inr, map, length, Option, Some, None, slice_get, slice_index_or, rules, arith, append_assoc, refl, sym, ap, ap₂, ◌∙◌, subst}
use Rattle.std.proofs.lemmas.Option.{slice_get_within}
use Rattle.law_sig.specs.Lists.{In, Each, AreDistinct}
use Rattle.law_sig.specs.Lists.In.{here, there}
use Rattle.law_sig.specs.Trees.{joined}
use Rattle.law_sig.specs.Signature.{symbol_at, constructors, vars_at, width_at, weight_at}
use Rattle.law_sig.specs.WellFormed.{AreCases, FitsPlace, IsBody, IsWellFormed}
use Rattle.law_sig.specs.declared.tree.SortId.{SortId}
use Rattle.law_sig.specs.declared.tree.SymId.{SymId}
use Rattle.law_sig.specs.declared.tree.Body.{Body}
use Rattle.law_sig.specs.declared.parts.Fun.{Fun}
use Rattle.law_sig.specs.declared.parts.Sym.{Sym}
use Rattle.law_sig.specs.declared.parts.Sym.TheVariants as sym
use Rattle.law_sig.specs.declared.parts.SigParts.{SigParts}
use Rattle.law_laws.proofs.BodyFacts.{some_is}
use Rattle.law_laws.proofs.ListFacts.{in_none, in_rest}
use Rattle.law_lines.specs.declared.raw.RawTerm.{RawTerm}
use Rattle.law_lines.specs.declared.raw.RawLine.{RawLine}
use Rattle.law_lines.specs.declared.raw.RawLine.TheVariants as line
use Rattle.law_typing.specs.Names.{number_of}
use Rattle.law_typing.specs.Naming.{sort_name, symbol_name, named_body}
use Rattle.law_typing.specs.Typed.{Version, FitsVersion, arg_names, sort_block, AreCaseLines, AreRules, AreFunLines}
use Rattle.law_typing.specs.Typed as typed
use Rattle.law_typing.specs.Typed.Version.{first, second, third}
use Rattle.law_typing.proofs.TreeOfFacts.{number_again}
use Rattle.law_typing.proofs.Laid.{ConRow, SortRow, CaseRow, Rules, FunRow, con_line, sort_line, fun_line, cons_then, sorts_then, funs_then, FitsWeight, FitsFun}
use Rattle.law_typing.proofs.Laid.Rules.{single, matching}
use Rattle.law_typing.proofs.Counted.{cons_of, cons_distinct, map_distinct, pigeons}
use Rattle.law_typing.proofs.RulesSound.{case_lines, con_names, rule_lines, rules_split}

-- Sorts and constructors

abbrev pub con_row : SigParts → SymId → ConRow
con_row parts c = record { weight = weight_at parts c; name = symbol_name parts c; args = arg_names parts c }

abbrev pub sort_row : SigParts → SortId → SortRow
sort_row parts s = record { name = sort_name parts s; vars = vars_at parts s; width = width_at parts s; cons = map (con_row parts) (constructors parts s) }

con_same : (v : Version) (parts : SigParts) (c : SymId) → typed.con_line v parts c ≡ con_line v (con_row parts c)
con_same (first vars width) parts c = refl
con_same second parts c = refl
con_same third parts c = refl

sort_same : (v : Version) (parts : SigParts) (s : SortId) → typed.sort_line v parts s ≡ sort_line v (sort_row parts s)
sort_same (first vars width) parts s = refl
sort_same second parts s = refl
sort_same third parts s = refl

cons_back : (v : Version) (parts : SigParts) (cs : List SymId) (rest : List RawLine) → map (typed.con_line v parts) cs ++ rest ≡ cons_then v (map (con_row parts) cs) rest
cons_back v parts [] rest = refl
cons_back v parts (c ∷ cs) rest = ap₂ ◌∷◌ (con_same v parts c) (cons_back v parts cs rest)

pub sorts_back : (v : Version) (parts : SigParts) (ids : List SortId) (rest : List RawLine)
    → joined (map (sort_block v parts) ids) ++ rest ≡ sorts_then v (map (sort_row parts) ids) rest
sorts_back v parts [] rest = refl
sorts_back v parts (s ∷ ids) rest = ap₂ ◌∷◌ (sort_same v parts s)
    (append_assoc (map (typed.con_line v parts) (constructors parts s)) (joined (map (sort_block v parts) ids)) rest
    ∙ cons_back v parts (constructors parts s) (joined (map (sort_block v parts) ids) ++ rest)
    ∙ ap (cons_then v (map (con_row parts) (constructors parts s))) (sorts_back v parts ids rest))

-- Cases

pub record CaseOf (parts : SigParts) (cons : List SymId) (bodies : List Body) (c : CaseRow) : Type 0 where
  pub place : ℕ
  pub con : SymId
  pub body : Body
  pub con_at : slice_get cons place ≡ Some con
  pub body_at : slice_get bodies place ≡ Some body
  pub con_is : c.con ≡ symbol_name parts con
  pub body_is : c.body ≡ named_body parts body

pub record CasesOf (parts : SigParts) (cons : List SymId) (bodies : List Body) (cs : List CaseRow) : Type 0 where
  pub count : length cs ≡ length cons
  pub each : Each (CaseOf parts cons bodies) cs
  pub all : (con : SymId) → In con cons → In (symbol_name parts con) (con_names cs)

pub names_apart : (parts : SigParts) → IsWellFormed parts → (sort : SortId) → AreDistinct (map (symbol_name parts) (constructors parts sort))
names_apart parts formed sort = map_distinct (symbol_name parts) (constructors parts sort) (cons_distinct 0 parts.symbols sort) apart
  where
    within : (c : SymId) → In c (constructors parts sort) → c.0 < length parts.symbol_names
    within c at =
        let i = cons_of 0 parts.symbols sort c at in
        let e : c.0 ≡ 0 + i.place = ap (λ (z : SymId). z.0) i.is in
        let l : i.place < length parts.symbols = slice_get_within parts.symbols i.place (sym.Con i.con) i.at in
        let o : length parts.symbol_names ≡ length parts.symbols = formed.one_name_each in omega arith

    apart : (x y : SymId) → In x (constructors parts sort) → In y (constructors parts sort) → symbol_name parts x ≡ symbol_name parts y → x ≡ y
    apart x y at_x at_y e =
        let a = number_again parts.symbol_names x.0 formed.symbol_names.distinct (within x at_x) in
        let b = number_again parts.symbol_names y.0 formed.symbol_names.distinct (within y at_y) in
        ap (λ m. record { 0 = m }) (some_is x.0 y.0 (sym a ∙ ap (number_of parts.symbol_names) e ∙ b))

-- the line of each case
abbrev expected : SigParts → List SymId → List Body → List RawLine
expected parts [] bodies = []
expected parts (c ∷ cons) [] = []
expected parts (c ∷ cons) (b ∷ bodies) = line.CaseLine (symbol_name parts c) (named_body parts b) ∷ expected parts cons bodies

expected_count : (parts : SigParts) (cons : List SymId) (bodies : List Body) → length bodies ≡ length cons → length (expected parts cons bodies) ≡ length cons
expected_count parts [] bodies e = refl
expected_count parts (c ∷ cons) [] e = cc
expected_count parts (c ∷ cons) (b ∷ bodies) e = let less : length bodies ≡ length cons = omega arith in ap suc (expected_count parts cons bodies less)

-- such a line, from its place
pub record LineOf (parts : SigParts) (cons : List SymId) (bodies : List Body) (l : RawLine) : Type 0 where
  pub place : ℕ
  pub con : SymId
  pub body : Body
  pub con_at : slice_get cons place ≡ Some con
  pub body_at : slice_get bodies place ≡ Some body
  pub is : l ≡ line.CaseLine (symbol_name parts con) (named_body parts body)

next_line : (parts : SigParts) (c : SymId) (cons : List SymId) (b : Body) (bodies : List Body) (l : RawLine) → LineOf parts cons bodies l → LineOf parts (c ∷ cons) (b ∷ bodies) l
next_line parts c cons b bodies l h = record { place = suc h.place; con = h.con; body = h.body; con_at = h.con_at; body_at = h.body_at; is = h.is }

line_of : (parts : SigParts) (cons : List SymId) (bodies : List Body) (l : RawLine) → In l (expected parts cons bodies) → LineOf parts cons bodies l
line_of parts [] bodies l at = in_none at
line_of parts (c ∷ cons) [] l at = in_none at
line_of parts (c ∷ cons) (b ∷ bodies) l here = record { place = 0; con = c; body = b; con_at = refl; body_at = refl; is = refl }
line_of parts (c ∷ cons) (b ∷ bodies) l (there at) = next_line parts c cons b bodies l (line_of parts cons bodies l at)

abbrev case_name : RawLine → List ℕ
case_name (line.CaseLine con body) = con
case_name other = []

expected_names : (parts : SigParts) (cons : List SymId) (bodies : List Body) (n : List ℕ) → Each (λ m. n ≢ m) (map (symbol_name parts) cons)
    → (t : RawTerm) → Each (λ l. line.CaseLine n t ≢ l) (expected parts cons bodies)
expected_names parts [] bodies n d t = tt
expected_names parts (c ∷ cons) [] n d t = tt
expected_names parts (c ∷ cons) (b ∷ bodies) n d t = ((λ e. d.0 (ap case_name e)), expected_names parts cons bodies n d.1 t)

expected_distinct : (parts : SigParts) (cons : List SymId) (bodies : List Body) → AreDistinct (map (symbol_name parts) cons) → AreDistinct (expected parts cons bodies)
expected_distinct parts [] bodies d = tt
expected_distinct parts (c ∷ cons) [] d = tt
expected_distinct parts (c ∷ cons) (b ∷ bodies) d =
    (expected_names parts cons bodies (symbol_name parts c) d.0 (named_body parts b), expected_distinct parts cons bodies d.1)

pub record CasesBack (parts : SigParts) (cons : List SymId) (bodies : List Body) (lines : List RawLine) : Type 0 where
  pub rows : List CaseRow
  pub is : lines ≡ case_lines rows
  pub of : CasesOf parts cons bodies rows

record RowsBack (parts : SigParts) (cons : List SymId) (bodies : List Body) (lines : List RawLine) : Type 0 where
  rows : List CaseRow
  is : lines ≡ case_lines rows
  each : Each (CaseOf parts cons bodies) rows

rows_back : (parts : SigParts) (cons : List SymId) (bodies : List Body) (lines : List RawLine) → ((l : RawLine) → In l lines → LineOf parts cons bodies l)
    → RowsBack parts cons bodies lines
rows_back parts cons bodies [] h = record { rows = []; is = refl; each = tt }
rows_back parts cons bodies (l ∷ lines) h =
    let o = h l here in
    let r = rows_back parts cons bodies lines (λ x at. h x (there at)) in
    record {
      rows = record { con = symbol_name parts o.con; body = named_body parts o.body } ∷ r.rows;
      is = ap₂ ◌∷◌ o.is r.is;
      each = (record { place = o.place; con = o.con; body = o.body; con_at = o.con_at; body_at = o.body_at; con_is = refl; body_is = refl }, r.each);
    }

lines_count : (cs : List CaseRow) → length (case_lines cs) ≡ length cs
lines_count [] = refl
lines_count (c ∷ cs) = ap suc (lines_count cs)

named_in : (cs : List CaseRow) (n : List ℕ) (t : RawTerm) → In (line.CaseLine n t) (case_lines cs) → In n (con_names cs)
named_in [] n t at = in_none at
named_in (c ∷ cs) n t at = by (in_rest at) (named_in cs n t)
  where
    by : (line.CaseLine n t ≡ line.CaseLine c.con c.body) ⊎ In (line.CaseLine n t) (case_lines cs) → (In (line.CaseLine n t) (case_lines cs) → In n (con_names cs))
        → In n (con_names (c ∷ cs))
    by (inl e) rest = subst (λ z. In z (con_names (c ∷ cs))) (sym (ap case_name e)) here
    by (inr h) rest = there (rest h)

get_of_in : {A : Type 0} {x : A} (xs : List A) → In x xs → (k : ℕ) × (slice_get xs k ≡ Some x)
get_of_in [] at = in_none at
get_of_in (y ∷ xs) here = (0, refl)
get_of_in (y ∷ xs) (there at) = let r = get_of_in xs at in (suc r.0, r.1)

get_under : {A : Type 0} (xs : List A) (k : ℕ) → k < length xs → (x : A) × (slice_get xs k ≡ Some x)
get_under [] k l = absurd (omega arith)
get_under (x ∷ xs) zero l = (x, refl)
get_under (x ∷ xs) (suc k) l = let m : k < length xs = omega arith in get_under xs k m

cases_back : (parts : SigParts) (cons : List SymId) (bodies : List Body) (lines : List RawLine) → length bodies ≡ length cons
    → AreDistinct (map (symbol_name parts) cons) → AreCaseLines parts cons bodies lines → CasesBack parts cons bodies lines
cases_back parts cons bodies lines count distinct are =
    let few : length lines ≤ length (expected parts cons bodies) = few_lines (expected_count parts cons bodies count) are.one_each in
    let back : (l : RawLine) → In l lines → LineOf parts cons bodies l =
    λ l at. line_of parts cons bodies l (pigeons (expected parts cons bodies) lines (expected_distinct parts cons bodies distinct)
    (λ x in_x. stands x (line_of parts cons bodies x in_x)) few l at) in
    let r = rows_back parts cons bodies lines back in
    record {
      rows = r.rows;
      is = r.is;
      of = record {
        count = sym (lines_count r.rows) ∙ ap length (sym r.is) ∙ are.one_each;
        each = r.each;
        all = λ con at. by r.rows r.is con (get_of_in cons at);
      };
    }
  where
    few_lines : {a c d : ℕ} → a ≡ c → d ≡ c → d ≤ a
    few_lines {a} {c} {d} e k = omega arith

    stands : (x : RawLine) → LineOf parts cons bodies x → In x lines
    stands x o = subst (λ z. In z lines) (sym o.is) (are.each o.place o.con o.body o.con_at o.body_at)

    by : (rows : List CaseRow) → lines ≡ case_lines rows → (con : SymId) → ((k : ℕ) × (slice_get cons k ≡ Some con)) → In (symbol_name parts con) (con_names rows)
    by rows is con f =
        let within : f.0 < length cons = slice_get_within cons f.0 con f.1 in
        let b = get_under bodies f.0 (subst (λ n. f.0 < n) (sym count) within) in
        named_in rows (symbol_name parts con) (named_body parts b.0) (subst (λ z. In (line.CaseLine (symbol_name parts con) (named_body parts b.0)) z) is (are.each f.0 con b.0 f.1 b.1))

-- Functions

abbrev pub RulesOf : SigParts → Fun → Option ℕ → Rules → Type 0
RulesOf parts fun None (single t) = (body : Body) × (fun.cases ≡ body ∷ []) × (t ≡ named_body parts body)
RulesOf parts fun None (matching n cs) = ⊥
RulesOf parts fun (Some place) (single t) = ⊥
RulesOf parts fun (Some place) (matching n cs) = (sort : SortId) × (n ≡ place) × (slice_get fun.args place ≡ Some sort) × CasesOf parts (constructors parts sort) fun.cases cs

pub record FunOf (parts : SigParts) (k : ℕ) (fun : Fun) (r : FunRow) : Type 0 where
  pub name : r.name ≡ symbol_name parts (record { 0 = k })
  pub args : r.args ≡ arg_names parts (record { 0 = k })
  pub result : r.result ≡ sort_name parts fun.result
  pub weight : r.weight ≡ weight_at parts (record { 0 = k })
  pub rules : RulesOf parts fun fun.place r.rules

abbrev pub RowsOf : SigParts → ℕ → List Sym → List FunRow → Type 0
RowsOf parts k [] rows = rows ≡ []
RowsOf parts k (sym.Con con ∷ symbols) rows = RowsOf parts (suc k) symbols rows
RowsOf parts k (sym.Fun fun ∷ symbols) [] = ⊥
RowsOf parts k (sym.Fun fun ∷ symbols) (r ∷ rows) = FunOf parts k fun r × RowsOf parts (suc k) symbols rows

cases_count : (parts : SigParts) (P : List SortId → Body → Type 0) (cs : List SymId) (bodies : List Body) → AreCases parts P cs bodies → length bodies ≡ length cs
cases_count parts P [] [] h = refl
cases_count parts P [] (b ∷ bodies) h = absurd h
cases_count parts P (c ∷ cs) [] h = absurd h
cases_count parts P (c ∷ cs) (b ∷ bodies) h = ap suc (cases_count parts P cs bodies h.1)

record RulesBack (parts : SigParts) (fun : Fun) (place : Option ℕ) (lines : List RawLine) : Type 0 where
  rules : Rules
  is : lines ≡ rule_lines rules
  of : RulesOf parts fun place rules

rules_back : (parts : SigParts) → IsWellFormed parts → (f : SymId) (fun : Fun) (place : Option ℕ) (lines : List RawLine) → FitsPlace parts f fun place
    → AreRules parts fun place lines → RulesBack parts fun place lines
rules_back parts formed f fun None lines fits are = record { rules = single (named_body parts are.0); is = are.2; of = (are.0, are.1, refl) }
rules_back parts formed f fun (Some place) lines fits are =
    let same : fits.0 ≡ are.0 = some_is fits.0 are.0 (sym fits.1 ∙ are.2) in
    let count : length fun.cases ≡ length (constructors parts are.0) = cases_count parts
    (λ fields body. IsBody parts (record { owner = f; place = Some place; fields = fields; params = fun.args }) fun.result body) (constructors parts fits.0) fun.cases fits.2 ∙ ap (λ s. length (constructors parts s)) same in
    let c = cases_back parts (constructors parts are.0) fun.cases are.1 count (names_apart parts formed are.0) are.4 in
    record { rules = matching place c.rows; is = are.3 ∙ ap (λ z. line.MatchLine place ∷ z) c.is; of = (are.0, refl, are.2, c.of) }

all_one : (ws : List ℕ) (k : ℕ) → Each (λ n. n ≡ 1) ws → slice_index_or ws k 1 ≡ 1
all_one [] k h = refl
all_one (w ∷ ws) zero h = h.0
all_one (w ∷ ws) (suc k) h = all_one ws k h.1

pub weight_fits : (v : Version) (parts : SigParts) → FitsVersion v parts → (f : SymId) → FitsWeight v (weight_at parts f)
weight_fits (first vars width) parts fits f = all_one parts.settings.weights f.0 fits.2
weight_fits second parts fits f = all_one parts.settings.weights f.0 fits
weight_fits third parts fits f = tt

pub record FunsBack (v : Version) (parts : SigParts) (k : ℕ) (symbols : List Sym) (lines : List RawLine) : Type 0 where
  pub rows : List FunRow
  pub is : (tail : List RawLine) → lines ++ tail ≡ funs_then v rows tail
  pub of : RowsOf parts k symbols rows
  pub fits : Each (FitsFun v) rows

fun_same : (v : Version) (parts : SigParts) (k : ℕ) (fun : Fun) (rules : Rules) → typed.fun_line v parts (record { 0 = k }) fun
    ≡ fun_line v (record {
      weight = weight_at parts (record { 0 = k });
      name = symbol_name parts (record { 0 = k });
      args = arg_names parts (record { 0 = k });
      result = sort_name parts fun.result;
      rules = rules;
    })
fun_same (first vars width) parts k fun rules = refl
fun_same second parts k fun rules = refl
fun_same third parts k fun rules = refl

pub funs_back : (v : Version) (parts : SigParts) → IsWellFormed parts → FitsVersion v parts → (k : ℕ) (symbols : List Sym) (lines : List RawLine)
    → ((i : ℕ) (s : Sym) → slice_get symbols i ≡ Some s → symbol_at parts (record { 0 = k + i }) ≡ Some s)
    → AreFunLines v parts k symbols lines → FunsBack v parts k symbols lines
funs_back v parts formed fits k [] lines at are = record { rows = []; is = λ tail. ap (λ z. z ++ tail) are; of = refl; fits = tt }
funs_back v parts formed fits k (sym.Con con ∷ symbols) lines at are =
    let r = funs_back v parts formed fits (suc k) symbols lines (λ i s e. ap (λ n. symbol_at parts (record { 0 = n })) (later i) ∙ at (suc i) s e) are in
    record { rows = r.rows; is = r.is; of = r.of; fits = r.fits }
  where
    later : (i : ℕ) → suc k + i ≡ k + suc i
    later i = omega arith
funs_back v parts formed fits k (sym.Fun fun ∷ symbols) lines at are =
    let here_it_is : symbol_at parts (record { 0 = k }) ≡ Some (sym.Fun fun) = ap (λ n. symbol_at parts (record { 0 = n })) plain ∙ at 0 (sym.Fun fun) refl in
    let symbol = formed.symbols (record { 0 = k }) (sym.Fun fun) here_it_is in
    let rules = rules_back parts formed (record { 0 = k }) fun fun.place are.0 symbol.bodies are.3 in
    let r = funs_back v parts formed fits (suc k) symbols are.1 (λ i s e. ap (λ n. symbol_at parts (record { 0 = n })) (later i) ∙ at (suc i) s e) are.4 in
    record {
      rows = record {
        weight = weight_at parts (record { 0 = k });
        name = symbol_name parts (record { 0 = k });
        args = arg_names parts (record { 0 = k });
        result = sort_name parts fun.result;
        rules = rules.rules;
      } ∷ r.rows;
      is = λ tail. ap (λ z. z ++ tail) are.2 ∙ ap₂ ◌∷◌ (fun_same v parts k fun rules.rules)
          (append_assoc are.0 are.1 tail ∙ ap₂ ◌++◌ rules.is (r.is tail) ∙ sym (rules_split rules.rules (funs_then v r.rows tail)));
      of = (record { name = refl; args = refl; result = refl; weight = refl; rules = rules.of }, r.of);
      fits = (weight_fits v parts fits (record { 0 = k }), r.fits);
    }
  where
    plain : k ≡ k + 0
    plain = omega arith

    later : (i : ℕ) → suc k + i ≡ k + suc i
    later i = omega arith
