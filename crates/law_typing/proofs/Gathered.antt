-- What the lines of a text in its parts give, part by part.
use Rattle.std.proofs.Common.{◌≡◌, ℕ, List, [], ◌∷◌, ◌++◌, map, append_assoc, append-nil, Option, Some, None, refl, sym, ap, ap₂, ◌∙◌}
use Rattle.law_sig.specs.Lists.{Each}
use Rattle.law_laws.proofs.ListFacts.{each_all}
use Rattle.law_lines.specs.declared.raw.RawTerm.{RawTerm}
use Rattle.law_lines.specs.declared.raw.RawLine.{RawLine}
use Rattle.law_lines.specs.declared.raw.RawLine.TheVariants as line
use Rattle.law_typing.specs.Declarations.{sort_in, symbol_in, added, sort_names, symbol_names, gathered}
use Rattle.law_typing.specs.Typed.{Version}
use Rattle.law_typing.specs.Typed.Version.{first, second, third}
use Rattle.law_typing.proofs.Laid.{ConRow, SortRow, CaseRow, Rules, FunRow, SidesRow, ValuesRow, PoolRows, Layout, con_line, sort_line, fun_line, cons_then, sorts_then, cases_then, rules_then, funs_then, background_then, values_then, pools_then, pool_lines, rule_line, start_then, tail_lines, declared_lines, layout_lines}
use Rattle.law_typing.proofs.Laid.Rules.{single, matching}
use Rattle.law_typing.proofs.Laid.PoolRows.{given, seeded}

-- lines of settings, rules and pools give nothing
pub record IsQuiet {A : Type 0} (f : RawLine → List A) : Type 0 where
  pub head : f line.Head ≡ []
  pub head2 : f line.Head2 ≡ []
  pub head3 : f line.Head3 ≡ []
  pub vars : (n : ℕ) → f (line.Vars n) ≡ []
  pub size : (n : ℕ) → f (line.Size n) ≡ []
  pub width : (n : ℕ) → f (line.Width n) ≡ []
  pub budget : (n : ℕ) → f (line.Budget n) ≡ []
  pub pairs : (n : ℕ) → f (line.Pairs n) ≡ []
  pub given_line : f line.PoolsGiven ≡ []
  pub seed_line : (s h c : ℕ) → f (line.PoolsSeed s h c) ≡ []
  pub match_line : (n : ℕ) → f (line.MatchLine n) ≡ []
  pub body_line : (t : RawTerm) → f (line.BodyLine t) ≡ []
  pub case_line : (c : List ℕ) (t : RawTerm) → f (line.CaseLine c t) ≡ []
  pub pool_line : f line.Pool ≡ []
  pub values_line : (s : List ℕ) (v : List RawTerm) → f (line.Values s v) ≡ []
  pub end_line : f line.End ≡ []

pub skip : {A : Type 0} (f : RawLine → List A) (l : RawLine) (rest : List RawLine) → f l ≡ [] → gathered f (l ∷ rest) ≡ gathered f rest
skip f l rest e = ap (λ z. z ++ gathered f rest) e

give : {A : Type 0} (f : RawLine → List A) (l : RawLine) (rest : List RawLine) (x : A) → f l ≡ x ∷ [] → gathered f (l ∷ rest) ≡ x ∷ gathered f rest
give f l rest x e = ap (λ z. z ++ gathered f rest) e

cases_quiet : {A : Type 0} (f : RawLine → List A) → IsQuiet f → (cs : List CaseRow) (rest : List RawLine) → gathered f (cases_then cs rest) ≡ gathered f rest
cases_quiet f q [] rest = refl
cases_quiet f q (c ∷ cs) rest = skip f (line.CaseLine c.con c.body) (cases_then cs rest) (q.case_line c.con c.body) ∙ cases_quiet f q cs rest

rules_quiet : {A : Type 0} (f : RawLine → List A) → IsQuiet f → (r : Rules) (rest : List RawLine) → gathered f (rules_then r rest) ≡ gathered f rest
rules_quiet f q (single t) rest = skip f (line.BodyLine t) rest (q.body_line t)
rules_quiet f q (matching n cs) rest = skip f (line.MatchLine n) (cases_then cs rest) (q.match_line n) ∙ cases_quiet f q cs rest

values_quiet : {A : Type 0} (f : RawLine → List A) → IsQuiet f → (vs : List ValuesRow) (rest : List RawLine) → gathered f (values_then vs rest) ≡ gathered f rest
values_quiet f q [] rest = refl
values_quiet f q (v ∷ vs) rest = skip f (line.Values v.sort v.values) (values_then vs rest) (q.values_line v.sort v.values) ∙ values_quiet f q vs rest

pools_quiet : {A : Type 0} (f : RawLine → List A) → IsQuiet f → (ps : List (List ValuesRow)) → gathered f (pools_then ps (line.End ∷ [])) ≡ []
pools_quiet f q [] = skip f line.End [] q.end_line
pools_quiet f q (p ∷ ps) = skip f line.Pool (values_then p (pools_then ps (line.End ∷ []))) q.pool_line
    ∙ values_quiet f q p (pools_then ps (line.End ∷ [])) ∙ pools_quiet f q ps

pub ends_quiet : {A : Type 0} (f : RawLine → List A) → IsQuiet f → (ps : PoolRows) → gathered f (pool_lines ps) ≡ []
ends_quiet f q (given ps) = pools_quiet f q ps
ends_quiet f q (seeded s h c) = skip f line.End [] q.end_line

rule_quiet : {A : Type 0} (f : RawLine → List A) → IsQuiet f → (ps : PoolRows) (rest : List RawLine) → gathered f (rule_line ps ∷ rest) ≡ gathered f rest
rule_quiet f q (given ps) rest = skip f line.PoolsGiven rest q.given_line
rule_quiet f q (seeded s h c) rest = skip f (line.PoolsSeed s h c) rest (q.seed_line s h c)

pub starts_quiet : {A : Type 0} (f : RawLine → List A) → IsQuiet f → (v : Version) (size budget pairs : ℕ) (ps : PoolRows) (rest : List RawLine)
    → gathered f (start_then v size budget pairs ps rest) ≡ gathered f rest
starts_quiet f q (first vars width) size budget pairs ps rest =
    ap₂ ◌++◌ q.head (ap₂ ◌++◌ (q.vars vars) (ap₂ ◌++◌ (q.size size) (ap₂ ◌++◌ (q.width width) (ap₂ ◌++◌ (q.budget budget)
    (ap₂ ◌++◌ (q.pairs pairs) (rule_quiet f q ps rest))))))
starts_quiet f q second size budget pairs ps rest =
    ap₂ ◌++◌ q.head2 (ap₂ ◌++◌ (q.size size) (ap₂ ◌++◌ (q.budget budget) (ap₂ ◌++◌ (q.pairs pairs) (rule_quiet f q ps rest))))
starts_quiet f q third size budget pairs ps rest =
    ap₂ ◌++◌ q.head3 (ap₂ ◌++◌ (q.size size) (ap₂ ◌++◌ (q.budget budget) (ap₂ ◌++◌ (q.pairs pairs) (rule_quiet f q ps rest))))

-- constructors

cons_give : {A : Type 0} (f : RawLine → List A) (g : ConRow → A) (v : Version) (cs : List ConRow) (rest : List RawLine)
    → Each (λ c. f (con_line v c) ≡ g c ∷ []) cs → gathered f (cons_then v cs rest) ≡ map g cs ++ gathered f rest
cons_give f g v [] rest e = refl
cons_give f g v (c ∷ cs) rest e = give f (con_line v c) (cons_then v cs rest) (g c) e.0 ∙ ap (λ z. g c ∷ z) (cons_give f g v cs rest e.1)

cons_quiet : {A : Type 0} (f : RawLine → List A) (v : Version) (cs : List ConRow) (rest : List RawLine)
    → ((c : ConRow) → f (con_line v c) ≡ []) → gathered f (cons_then v cs rest) ≡ gathered f rest
cons_quiet f v [] rest e = refl
cons_quiet f v (c ∷ cs) rest e = skip f (con_line v c) (cons_then v cs rest) (e c) ∙ cons_quiet f v cs rest e

-- something for each constructor
abbrev pub per_con : {A : Type 0} → (ConRow → A) → List SortRow → List A
per_con g [] = []
per_con g (s ∷ ss) = map g s.cons ++ per_con g ss

sorts_give : {A : Type 0} (f : RawLine → List A) (g : SortRow → A) (v : Version) (ss : List SortRow) (rest : List RawLine)
    → Each (λ s. f (sort_line v s) ≡ g s ∷ []) ss → ((c : ConRow) → f (con_line v c) ≡ [])
    → gathered f (sorts_then v ss rest) ≡ map g ss ++ gathered f rest
sorts_give f g v [] rest e k = refl
sorts_give f g v (s ∷ ss) rest e k = give f (sort_line v s) (cons_then v s.cons (sorts_then v ss rest)) (g s) e.0
    ∙ ap (λ z. g s ∷ z) (cons_quiet f v s.cons (sorts_then v ss rest) k ∙ sorts_give f g v ss rest e.1 k)

sorts_give_cons : {A : Type 0} (f : RawLine → List A) (g : ConRow → A) (v : Version) (ss : List SortRow) (rest : List RawLine)
    → ((s : SortRow) → f (sort_line v s) ≡ []) → Each (λ (s : SortRow). Each (λ c. f (con_line v c) ≡ g c ∷ []) s.cons) ss
    → gathered f (sorts_then v ss rest) ≡ per_con g ss ++ gathered f rest
sorts_give_cons f g v [] rest e k = refl
sorts_give_cons f g v (s ∷ ss) rest e k = skip f (sort_line v s) (cons_then v s.cons (sorts_then v ss rest)) (e s)
    ∙ cons_give f g v s.cons (sorts_then v ss rest) k.0 ∙ ap (λ z. map g s.cons ++ z) (sorts_give_cons f g v ss rest e k.1)
    ∙ sym (append_assoc (map g s.cons) (per_con g ss) (gathered f rest))

pub sorts_quiet : {A : Type 0} (f : RawLine → List A) (v : Version) (ss : List SortRow) (rest : List RawLine)
    → ((s : SortRow) → f (sort_line v s) ≡ []) → ((c : ConRow) → f (con_line v c) ≡ []) → gathered f (sorts_then v ss rest) ≡ gathered f rest
sorts_quiet f v [] rest e k = refl
sorts_quiet f v (s ∷ ss) rest e k = skip f (sort_line v s) (cons_then v s.cons (sorts_then v ss rest)) (e s)
    ∙ cons_quiet f v s.cons (sorts_then v ss rest) k ∙ sorts_quiet f v ss rest e k

-- functions

funs_give : {A : Type 0} (f : RawLine → List A) → IsQuiet f → (g : FunRow → A) (v : Version) (fs : List FunRow) (rest : List RawLine)
    → Each (λ r. f (fun_line v r) ≡ g r ∷ []) fs → gathered f (funs_then v fs rest) ≡ map g fs ++ gathered f rest
funs_give f q g v [] rest e = refl
funs_give f q g v (r ∷ fs) rest e = give f (fun_line v r) (rules_then r.rules (funs_then v fs rest)) (g r) e.0
    ∙ ap (λ z. g r ∷ z) (rules_quiet f q r.rules (funs_then v fs rest) ∙ funs_give f q g v fs rest e.1)

pub funs_quiet : {A : Type 0} (f : RawLine → List A) → IsQuiet f → (v : Version) (fs : List FunRow) (rest : List RawLine)
    → ((r : FunRow) → f (fun_line v r) ≡ []) → gathered f (funs_then v fs rest) ≡ gathered f rest
funs_quiet f q v [] rest e = refl
funs_quiet f q v (r ∷ fs) rest e = skip f (fun_line v r) (rules_then r.rules (funs_then v fs rest)) (e r)
    ∙ rules_quiet f q r.rules (funs_then v fs rest) ∙ funs_quiet f q v fs rest e

-- the rest

pub sides_give : {A : Type 0} (f : RawLine → List A) (g : SidesRow → A) (es : List SidesRow) (rest : List RawLine)
    → ((e : SidesRow) → f (line.Background e.left e.right) ≡ g e ∷ []) → gathered f (background_then es rest) ≡ map g es ++ gathered f rest
sides_give f g [] rest k = refl
sides_give f g (e ∷ es) rest k = give f (line.Background e.left e.right) (background_then es rest) (g e) (k e) ∙ ap (λ z. g e ∷ z) (sides_give f g es rest k)

pub sides_quiet : {A : Type 0} (f : RawLine → List A) (es : List SidesRow) (rest : List RawLine)
    → ((l r : RawTerm) → f (line.Background l r) ≡ []) → gathered f (background_then es rest) ≡ gathered f rest
sides_quiet f [] rest k = refl
sides_quiet f (e ∷ es) rest k = skip f (line.Background e.left e.right) (background_then es rest) (k e.left e.right) ∙ sides_quiet f es rest k

-- explored names and background give nothing either
pub record IsBrief {A : Type 0} (f : RawLine → List A) : Type 0 where
  pub quiet : IsQuiet f
  pub explore : (names : List (List ℕ)) → f (line.Explore names) ≡ []
  pub sides : (l r : RawTerm) → f (line.Background l r) ≡ []

tail_quiet : {A : Type 0} (f : RawLine → List A) → IsBrief f → (l : Layout) → gathered f (tail_lines l) ≡ []
tail_quiet f b l = skip f (line.Explore l.explored) (background_then l.background (pool_lines l.pools)) (b.explore l.explored)
    ∙ sides_quiet f l.background (pool_lines l.pools) b.sides ∙ ends_quiet f b.quiet l.pools

-- Names

abbrev sort_name_of : RawLine → List (List ℕ)
sort_name_of l = added (sort_in l) []

abbrev symbol_name_of : RawLine → List (List ℕ)
symbol_name_of l = added (symbol_in l) []

added_is : {A : Type 0} (o : Option A) (xs : List A) → added o xs ≡ added o [] ++ xs
added_is None xs = refl
added_is (Some x) xs = refl

sort_names_are : (lines : List RawLine) → sort_names lines ≡ gathered sort_name_of lines
sort_names_are [] = refl
sort_names_are (l ∷ lines) = added_is (sort_in l) (sort_names lines) ∙ ap (λ z. added (sort_in l) [] ++ z) (sort_names_are lines)

symbol_names_are : (lines : List RawLine) → symbol_names lines ≡ gathered symbol_name_of lines
symbol_names_are [] = refl
symbol_names_are (l ∷ lines) = added_is (symbol_in l) (symbol_names lines) ∙ ap (λ z. added (symbol_in l) [] ++ z) (symbol_names_are lines)

sort_names_brief : IsBrief sort_name_of
sort_names_brief = record {
  quiet = record {
    head = refl;
    head2 = refl;
    head3 = refl;
    vars = λ n. refl;
    size = λ n. refl;
    width = λ n. refl;
    budget = λ n. refl;
    pairs = λ n. refl;
    given_line = refl;
    seed_line = λ s h c. refl;
    match_line = λ n. refl;
    body_line = λ t. refl;
    case_line = λ c t. refl;
    pool_line = refl;
    values_line = λ s v. refl;
    end_line = refl;
  };
  explore = λ n. refl;
  sides = λ l r. refl;
}

symbol_names_brief : IsBrief symbol_name_of
symbol_names_brief = record {
  quiet = record {
    head = refl;
    head2 = refl;
    head3 = refl;
    vars = λ n. refl;
    size = λ n. refl;
    width = λ n. refl;
    budget = λ n. refl;
    pairs = λ n. refl;
    given_line = refl;
    seed_line = λ s h c. refl;
    match_line = λ n. refl;
    body_line = λ t. refl;
    case_line = λ c t. refl;
    pool_line = refl;
    values_line = λ s v. refl;
    end_line = refl;
  };
  explore = λ n. refl;
  sides = λ l r. refl;
}

-- one thing for each sort
pub per_sort : {A : Type 0} (f : RawLine → List A) → IsBrief f → (g : SortRow → A) (l : Layout) → Each (λ s. f (sort_line l.version s) ≡ g s ∷ []) l.sorts
    → ((c : ConRow) → f (con_line l.version c) ≡ []) → ((r : FunRow) → f (fun_line l.version r) ≡ []) → gathered f (layout_lines l) ≡ map g l.sorts
per_sort f b g l e k m = starts_quiet f b.quiet l.version l.size l.budget l.pairs l.pools (declared_lines l)
    ∙ sorts_give f g l.version l.sorts (funs_then l.version l.funs (tail_lines l)) e k
    ∙ ap (λ z. map g l.sorts ++ z) (funs_quiet f b.quiet l.version l.funs (tail_lines l) m ∙ tail_quiet f b l) ∙ append-nil (map g l.sorts)

-- one thing for each symbol
pub per_symbol : {A : Type 0} (f : RawLine → List A) → IsBrief f → (g : ConRow → A) (h : FunRow → A) (l : Layout) → ((s : SortRow) → f (sort_line l.version s) ≡ [])
    → Each (λ (s : SortRow). Each (λ c. f (con_line l.version c) ≡ g c ∷ []) s.cons) l.sorts → Each (λ r. f (fun_line l.version r) ≡ h r ∷ []) l.funs
    → gathered f (layout_lines l) ≡ per_con g l.sorts ++ map h l.funs
per_symbol f b g h l e k m = starts_quiet f b.quiet l.version l.size l.budget l.pairs l.pools (declared_lines l)
    ∙ sorts_give_cons f g l.version l.sorts (funs_then l.version l.funs (tail_lines l)) e k
    ∙ ap (λ z. per_con g l.sorts ++ z) (funs_give f b.quiet h l.version l.funs (tail_lines l) m ∙ ap (λ z. map h l.funs ++ z) (tail_quiet f b l) ∙ append-nil (map h l.funs))

pub told_sorts : (l : Layout) → sort_names (layout_lines l) ≡ map (λ (s : SortRow). s.name) l.sorts
told_sorts l = sort_names_are (layout_lines l)
    ∙ per_sort sort_name_of sort_names_brief (λ s. s.name) l (each_all (λ s. sort_name_of (sort_line l.version s) ≡ s.name ∷ []) (at_sort l.version) l.sorts)
    (at_con l.version) (at_fun l.version)
  where
    at_sort : (v : Version) (s : SortRow) → sort_name_of (sort_line v s) ≡ s.name ∷ []
    at_sort (first vars width) s = refl
    at_sort second s = refl
    at_sort third s = refl

    at_con : (v : Version) (c : ConRow) → sort_name_of (con_line v c) ≡ []
    at_con (first vars width) c = refl
    at_con second c = refl
    at_con third c = refl

    at_fun : (v : Version) (r : FunRow) → sort_name_of (fun_line v r) ≡ []
    at_fun (first vars width) r = refl
    at_fun second r = refl
    at_fun third r = refl

pub told_names : (l : Layout) → symbol_names (layout_lines l) ≡ per_con (λ c. c.name) l.sorts ++ map (λ (r : FunRow). r.name) l.funs
told_names l = symbol_names_are (layout_lines l)
    ∙ per_symbol symbol_name_of symbol_names_brief (λ c. c.name) (λ r. r.name) l (at_sort l.version)
    (each_all (λ (s : SortRow). Each (λ c. symbol_name_of (con_line l.version c) ≡ c.name ∷ []) s.cons)
    (λ s. each_all (λ c. symbol_name_of (con_line l.version c) ≡ c.name ∷ []) (at_con l.version) s.cons) l.sorts)
    (each_all (λ r. symbol_name_of (fun_line l.version r) ≡ r.name ∷ []) (at_fun l.version) l.funs)
  where
    at_sort : (v : Version) (s : SortRow) → symbol_name_of (sort_line v s) ≡ []
    at_sort (first vars width) s = refl
    at_sort second s = refl
    at_sort third s = refl

    at_con : (v : Version) (c : ConRow) → symbol_name_of (con_line v c) ≡ c.name ∷ []
    at_con (first vars width) c = refl
    at_con second c = refl
    at_con third c = refl

    at_fun : (v : Version) (r : FunRow) → symbol_name_of (fun_line v r) ≡ r.name ∷ []
    at_fun (first vars width) r = refl
    at_fun second r = refl
    at_fun third r = refl
