-- A function whose lines show no fault: its bodies are well-formed, and its rules are written so.
use Rattle.std.proofs.Common.{◌≡◌, ℕ, zero, suc, ◌+◌, ◌<◌, ◌≤◌, List, [], ◌∷◌, ◌++◌, map, length, Bool, true, false, true≢false, not, ◌&&◌, ◌||◌, nat_lt, eqb-true, eq-eqb, is_some, Option, Some, None, slice_get, arith, refl, sym, ap, ap₂, ◌∙◌, subst}
use Rattle.std.specs.List.{list_all}
use Rattle.std.proofs.lemmas.List.{length-map}
use Rattle.std.proofs.lemmas.Option.{slice_get_within, get_or_from_slice_get}
use Rattle.law_sig.specs.Lists.{In, Each, AreDistinct}
use Rattle.law_sig.specs.Lists.In.{here, there}
use Rattle.law_sig.specs.Trees.{same_sort}
use Rattle.law_sig.specs.Signature.{symbol_at, args_of, result_of, constructors, constructors_from}
use Rattle.law_sig.specs.WellFormed.{IsBody, IsCase, AreCases, FitsPlace, is_function}
use Rattle.law_sig.specs.WellFormed as formed
use Rattle.law_sig.specs.declared.tree.SortId.{SortId}
use Rattle.law_sig.specs.declared.tree.SymId.{SymId}
use Rattle.law_sig.specs.declared.tree.Body.{Body}
use Rattle.law_sig.specs.declared.parts.Con.{Con}
use Rattle.law_sig.specs.declared.parts.Fun.{Fun}
use Rattle.law_sig.specs.declared.parts.Sym.{Sym}
use Rattle.law_sig.specs.declared.parts.Sym.TheVariants as sym
use Rattle.law_sig.specs.declared.parts.SigParts.{SigParts}
use Rattle.law_laws.proofs.BodyFacts.{some_is, none_is}
use Rattle.law_laws.proofs.ListFacts.{of_each, in_map}
use Rattle.law_laws.proofs.Sorts.{both_true}
use Rattle.law_lines.specs.declared.raw.RawTerm.{RawTerm}
use Rattle.law_lines.specs.declared.raw.RawLine.{RawLine}
use Rattle.law_lines.specs.declared.raw.RawLine.TheVariants as line
use Rattle.law_typing.specs.Names.{number_of}
use Rattle.law_typing.specs.Naming.{symbol_name, named_body}
use Rattle.law_typing.specs.TermFaults.{fault_if, term_fault, wanted_of}
use Rattle.law_typing.specs.LineFaults.{after_case, owner, own_symbol, sort_given, body_fault, case_names, is_case, has_case, match_faults, sort_at, wrong_case, matched, symbol_case_faults, case_faults}
use Rattle.law_typing.specs.Stated.{short, stated_body, case_body, case_line, case_number, stated_case, stated_cases, stated_place, stated_bodies}
use Rattle.law_typing.specs.Typed.{AreRules, AreCaseLines}
use Rattle.law_typing.specs.declared.errors.TypeKind.TheVariants as kind
use Rattle.law_typing.specs.declared.scope.Scope.{Scope}
use Rattle.law_typing.specs.declared.scope.Standing.TheVariants as standing
use Rattle.law_typing.specs.declared.seen.Seen.{Seen}
use Rattle.law_typing.specs.declared.whole.Whole.{Whole}
use Rattle.law_typing.proofs.NumberFacts.{stands_at, found_at}
use Rattle.law_typing.proofs.TreeOfFacts.{number_again}
use Rattle.law_typing.proofs.SideFacts.{Declares, headed, in_parts}
use Rattle.law_typing.proofs.TermSound.{fault_none, neither, not_false, wanted_is, symbol_named}
use Rattle.law_typing.proofs.BodySound.{body_stands}
use Rattle.law_typing.proofs.Laid.{CaseRow, Rules, cases_then, rules_then}
use Rattle.law_typing.proofs.Laid.Rules.{single, matching}
use Rattle.law_typing.proofs.Passed.{Both, CasesGood, RulesGood}
use Rattle.law_typing.proofs.Spelled.{HasSize, RulesSpelled, body_writable}
use Rattle.law_typing.proofs.States.{short_is}
use Rattle.law_typing.proofs.Counted.{NewFrom, new_distinct, no_longer, map_distinct, cons_of, of_cons, cons_distinct, cons_headed}

-- Bodies

abbrev pub scope_at : ℕ → Option ℕ → List SortId → List SortId → Scope
scope_at k place fields args = record { standing = standing.Body; owner = k; place = place; fields = fields; params = args }

abbrev pub formed_at : ℕ → Option ℕ → List SortId → List SortId → formed.Scope
formed_at k place fields args = record { owner = record { 0 = k }; place = place; fields = fields; params = args }

-- the function at work
pub record IsAt (text : Whole) (seen : Seen) (k : ℕ) (args : List SortId) (result : SortId) : Type 0 where
  pub owner_is : owner seen ≡ k
  pub wants : wanted_of (own_symbol text seen) ≡ args
  pub gives : sort_given (own_symbol text seen) ≡ Some result

pub record BodyOk (parts : SigParts) (k : ℕ) (place : Option ℕ) (fields args : List SortId) (result : SortId) (body : Body) (t : RawTerm) : Type 0 where
  pub is : IsBody parts (formed_at k place fields args) result body
  pub named : named_body parts body ≡ t

body_ok : (text : Whole) (parts : SigParts) (seen : Seen) (k : ℕ) (args : List SortId) (result : SortId) (fields : List SortId) (t : RawTerm) → Declares text parts
    → IsAt text seen k args result → body_fault text seen fields t ≡ None → HasSize t → BodyOk parts k seen.place fields args result (stated_body text t) t
body_ok text parts seen k args result fields t declares at e size =
    let same : body_fault text seen fields t ≡ term_fault text (scope_at k seen.place fields args) (Some result) t =
    ap₂ (λ o p. term_fault text (scope_at o seen.place fields p) (sort_given (own_symbol text seen)) t) at.owner_is at.wants
    ∙ ap (λ g. term_fault text (scope_at k seen.place fields args) g t) at.gives in
    let b = body_stands text parts (scope_at k seen.place fields args) declares refl t (Some result) (sym same ∙ e) in
    record {
      is = record {
        sorted = ap (λ (p : formed.Part). p.sort) b.part ∙ ap Some (sym (wanted_is result b.sort b.wants));
        written = body_writable parts (stated_body text t) t b.named size;
      };
      named = b.named;
    }

-- Cases

pub record CaseOk (text : Whole) (parts : SigParts) (k n : ℕ) (args : List SortId) (result sort : SortId) (c : CaseRow) : Type 0 where
  pub number : ℕ
  pub con : Con
  pub numbered : number_of text.names c.con ≡ Some number
  pub declared : slice_get parts.symbols number ≡ Some (sym.Con con)
  pub of : same_sort con.sort sort ≡ true
  pub body : BodyOk parts k (Some n) con.args args result (stated_body text c.body) c.body

or_false : (a c : Bool) → (a || c) ≡ false → (a ≡ false) × (c ≡ false)
or_false true c e = absurd (true≢false e)
or_false false c e = (refl, e)

turned : (a c : SortId) → same_sort a c ≡ true → same_sort c a ≡ true
turned a c e = let h : a.0 ≡ c.0 = eqb-true a.0 c.0 e in eq-eqb c.0 a.0 (sym h)

case_ok : (text : Whole) (parts : SigParts) (seen : Seen) (k n : ℕ) (args : List SortId) (result sort : SortId) (c : CaseRow) → Declares text parts
    → IsAt text seen k args result → seen.place ≡ Some n → slice_get args n ≡ Some sort
    → case_faults text seen c.con c.body (number_of text.names c.con) ≡ None → HasSize c.body
    → Both (CaseOk text parts k n args result sort c) (is_some (number_of seen.cases c.con) ≡ false)
case_ok text parts seen k n args result sort c declares at place has e size = by (number_of text.names c.con) refl e
  where
    matched_is : matched text seen ≡ Some sort
    matched_is = ap₂ sort_at place at.wants ∙ has

    own : (number : ℕ) → number_of text.names c.con ≡ Some number → (h : Sym) → body_fault text seen (args_of h) c.body ≡ None
        → (is_function (Some h) || not (same_sort sort (result_of h))) ≡ false → is_some (number_of seen.cases c.con) ≡ false
        → (symbol : Sym) → slice_get parts.symbols number ≡ Some symbol → h ≡ headed symbol
        → Both (CaseOk text parts k n args result sort c) (is_some (number_of seen.cases c.con) ≡ false)
    own number k' h b w f (sym.Fun fun) d same =
        absurd (true≢false (sym (ap (λ z. is_function (Some z)) same) ∙ (or_false (is_function (Some h)) (not (same_sort sort (result_of h))) w).0))
    own number k' h b w f (sym.Con con) d same =
        let is : same_sort sort (result_of h) ≡ true = not_false _ (or_false (is_function (Some h)) (not (same_sort sort (result_of h))) w).1 in
        record {
          one = record {
            number = number;
            con = con;
            numbered = k';
            declared = d;
            of = turned sort con.sort (sym (ap (λ z. same_sort sort (result_of z)) same) ∙ is);
            body = subst (λ p. BodyOk parts k p con.args args result (stated_body text c.body) c.body) place
                (body_ok text parts seen k args result con.args c.body declares at (sym (ap (λ z. body_fault text seen (args_of z) c.body) same) ∙ b) size);
          };
          other = f;
        }

    inner : (number : ℕ) → number_of text.names c.con ≡ Some number → (o : Option Sym) → slice_get text.symbols number ≡ o
        → symbol_case_faults text seen c.con c.body number o ≡ None → Both (CaseOk text parts k n args result sort c) (is_some (number_of seen.cases c.con) ≡ false)
    inner number k' None d h = none_is kind.UnknownName (sym h)
    inner number k' (Some symbol) d h =
        let a = neither (fault_if (is_function (Some symbol) && nat_lt (owner seen) number) kind.UnknownName) _ h in
        let b = neither (wrong_case (matched text seen) symbol) _ a.1 in
        let f = neither (fault_if (is_some (number_of seen.cases c.con)) kind.CaseTwice) _ b.1 in
        let p = in_parts text parts declares number symbol d in
        own number k' symbol f.1 (fault_none _ (kind.SortMismatch sort (result_of symbol)) (sym (ap (λ z. wrong_case z symbol) matched_is) ∙ b.0))
        (fault_none _ kind.CaseTwice f.0) p.0 p.1 p.2

    by : (o : Option ℕ) → number_of text.names c.con ≡ o → case_faults text seen c.con c.body o ≡ None
        → Both (CaseOk text parts k n args result sort c) (is_some (number_of seen.cases c.con) ≡ false)
    by None k' h = none_is kind.UnknownName (sym h)
    by (Some number) k' h = inner number k' (slice_get text.symbols number) refl h

abbrev pub con_names : List CaseRow → List (List ℕ)
con_names cs = map (λ (c : CaseRow). c.con) cs

cases_ok : (text : Whole) (parts : SigParts) (seen : Seen) (k n : ℕ) (args : List SortId) (result sort : SortId) (cs : List CaseRow) → Declares text parts
    → IsAt text seen k args result → seen.place ≡ Some n → slice_get args n ≡ Some sort → CasesGood text seen cs → Each (λ (c : CaseRow). HasSize c.body) cs
    → Both (Each (CaseOk text parts k n args result sort) cs) (NewFrom seen.cases (con_names cs))
cases_ok text parts seen k n args result sort [] declares at place has good sizes = record { one = tt; other = tt }
cases_ok text parts seen k n args result sort (c ∷ cs) declares at place has good sizes =
    let a = case_ok text parts seen k n args result sort c declares at place has good.0 sizes.0 in
    let r = cases_ok text parts (after_case c.con seen) k n args result sort cs declares
    (record { owner_is = at.owner_is; wants = at.wants; gives = at.gives }) place has good.1 sizes.1 in
    record { one = (a.one, r.one); other = (a.other, r.other) }

-- The case of a constructor

pub names_are : (cs : List CaseRow) (rest : List RawLine) → case_names rest ≡ [] → case_names (cases_then cs rest) ≡ con_names cs
names_are [] rest e = e
names_are (c ∷ cs) rest e = ap (λ z. c.con ∷ z) (names_are cs rest e)

row_at : (cs : List CaseRow) (rest : List RawLine) (at : ℕ) (name : List ℕ) → slice_get (con_names cs) at ≡ Some name
    → (c : CaseRow) × In c cs × (c.con ≡ name) × (slice_get (cases_then cs rest) at ≡ Some (line.CaseLine c.con c.body))
row_at [] rest at name e = none_is name e
row_at (c ∷ cs) rest zero name e = (c, here, some_is c.con name e, refl)
row_at (c ∷ cs) rest (suc at) name e = let r = row_at cs rest at name e in (r.0, there r.1, r.2, r.3)

pub record CaseFound (text : Whole) (cs : List CaseRow) (rest : List RawLine) (con : SymId) : Type 0 where
  pub row : CaseRow
  pub is_in : In row cs
  pub named : slice_get text.names con.0 ≡ Some row.con
  pub case : stated_case text (cases_then cs rest) con ≡ stated_body text row.body

pub case_found : (text : Whole) (cs : List CaseRow) (rest : List RawLine) (con : SymId) → case_names rest ≡ []
    → has_case text (case_names (cases_then cs rest)) con ≡ true → CaseFound text cs rest con
case_found text cs rest con none e = by (slice_get text.names con.0) refl e
  where
    numbered : (name : List ℕ) → slice_get text.names con.0 ≡ Some name → (o : Option ℕ) → number_of (case_names (cases_then cs rest)) name ≡ o → is_some o ≡ true
        → CaseFound text cs rest con
    numbered name k None n h = absurd (true≢false (sym h))
    numbered name k (Some at) n h =
        let r = row_at cs rest at name (stands_at (con_names cs) name at (sym (ap (λ l. number_of l name) (names_are cs rest none)) ∙ n)) in
        record {
          row = r.0;
          is_in = r.1;
          named = k ∙ ap Some (sym r.2);
          case = ap (λ o. case_body text (case_line (cases_then cs rest) (case_number (case_names (cases_then cs rest)) o))) k
              ∙ ap (λ o. case_body text (case_line (cases_then cs rest) o)) n ∙ ap (case_body text) r.3;
        }

    by : (o : Option (List ℕ)) → slice_get text.names con.0 ≡ o → is_case (case_names (cases_then cs rest)) o ≡ true → CaseFound text cs rest con
    by None k h = absurd (true≢false (sym h))
    by (Some name) k h = numbered name k (number_of (case_names (cases_then cs rest)) name) refl h

all_found : (test : SymId → Bool) (xs : List SymId) → list_all test xs ≡ true → (x : SymId) → In x xs → test x ≡ true
all_found test [] e x at = elim at [ ]
all_found test (y ∷ ys) e x here = (both_true (test y) (list_all test ys) e).0
all_found test (y ∷ ys) e x (there at) = all_found test ys (both_true (test y) (list_all test ys) e).1 x at

-- the lines of cases alone
abbrev pub case_lines : List CaseRow → List RawLine
case_lines [] = []
case_lines (c ∷ cs) = line.CaseLine c.con c.body ∷ case_lines cs

pub cases_split : (cs : List CaseRow) (rest : List RawLine) → cases_then cs rest ≡ case_lines cs ++ rest
cases_split [] rest = refl
cases_split (c ∷ cs) rest = ap (λ z. line.CaseLine c.con c.body ∷ z) (cases_split cs rest)

in_lines : (cs : List CaseRow) (c : CaseRow) → In c cs → In (line.CaseLine c.con c.body) (case_lines cs)
in_lines [] c' at = elim at [ ]
in_lines (c ∷ cs) c' here = here
in_lines (c ∷ cs) c' (there at) = there (in_lines cs c' at)

lines_count : (cs : List CaseRow) → length (case_lines cs) ≡ length (con_names cs)
lines_count [] = refl
lines_count (c ∷ cs) = ap suc (lines_count cs)

mapped_at : (g : SymId → Body) (cons : List SymId) (at : ℕ) (con : SymId) (body : Body) → slice_get cons at ≡ Some con → slice_get (map g cons) at ≡ Some body
    → In con cons × (body ≡ g con)
mapped_at g [] at con body e k = none_is con e
mapped_at g (x ∷ cons) zero con body e k = (subst (λ z. In con (z ∷ cons)) (sym (some_is x con e)) here, sym (some_is (g x) body k) ∙ ap g (some_is x con e))
mapped_at g (x ∷ cons) (suc at) con body e k = let r = mapped_at g cons at con body e k in (there r.0, r.1)

are_cases : (parts : SigParts) (P : List SortId → Body → Type 0) (g : SymId → Body) (cons : List SymId)
    → ((c : SymId) → In c cons → IsCase P (symbol_at parts c) (g c)) → AreCases parts P cons (map g cons)
are_cases parts P g [] h = tt
are_cases parts P g (c ∷ cs) h = (h c here, are_cases parts P g cs (λ x at. h x (there at)))

-- A match

record MatchIs (text : Whole) (parts : SigParts) (k n : ℕ) (args : List SortId) (result sort : SortId) (cs : List CaseRow) (rest : List RawLine) : Type 0 where
  cases : AreCases parts (λ fields body. IsBody parts (formed_at k (Some n) fields args) result body) (constructors parts sort)
      (map (stated_case text (cases_then cs rest)) (constructors parts sort))
  lines : AreCaseLines parts (constructors parts sort) (map (stated_case text (cases_then cs rest)) (constructors parts sort)) (case_lines cs)

module _ (text : Whole) (parts : SigParts) (declares : Declares text parts) (distinct : AreDistinct parts.symbol_names) (one_each : length parts.symbol_names ≡ length parts.symbols)
    (k n : ℕ) (args : List SortId) (result sort : SortId) (cs : List CaseRow) (rest : List RawLine) (none : case_names rest ≡ [])
    (oks : Each (CaseOk text parts k n args result sort) cs) (new : NewFrom [] (con_names cs))
    (complete : list_all (has_case text (case_names (cases_then cs rest))) (constructors parts sort) ≡ true)
  where
    found : (c : SymId) → In c (constructors parts sort) → CaseFound text cs rest c
    found c at = case_found text cs rest c none (all_found (has_case text (case_names (cases_then cs rest))) (constructors parts sort) complete c at)

    -- the constructor of a case is the one that it names
    same_con : (c : SymId) → (f : CaseFound text cs rest c) → (o : CaseOk text parts k n args result sort f.row) → c.0 ≡ o.number
    same_con c f o =
        let in_names : slice_get parts.symbol_names c.0 ≡ Some f.row.con = ap (λ l. slice_get l c.0) (sym declares.names) ∙ f.named in
        let again : number_of text.names f.row.con ≡ Some c.0 =
        ap (λ l. number_of l f.row.con) declares.names ∙ found_at parts.symbol_names f.row.con c.0 distinct in_names in
        some_is c.0 o.number (sym again ∙ o.numbered)

    con_case : (c : SymId) → In c (constructors parts sort)
        → IsCase (λ fields body. IsBody parts (formed_at k (Some n) fields args) result body) (symbol_at parts c) (stated_case text (cases_then cs rest) c)
    con_case c at =
        let f = found c at in
        let o = of_each (CaseOk text parts k n args result sort) f.is_in oks in
        let here_it_is : symbol_at parts c ≡ Some (sym.Con o.con) = ap (slice_get parts.symbols) (same_con c f o) ∙ o.declared in
        subst (λ z. IsCase (λ fields body. IsBody parts (formed_at k (Some n) fields args) result body) z (stated_case text (cases_then cs rest) c)) (sym here_it_is)
        (subst (λ b. IsBody parts (formed_at k (Some n) o.con.args args) result b) (sym f.case) o.body.is)

    named_so : (c : SymId) → (f : CaseFound text cs rest c) → symbol_name parts c ≡ f.row.con
    named_so c f = get_or_from_slice_get parts.symbol_names c.0 f.row.con [] (ap (λ l. slice_get l c.0) (sym declares.names) ∙ f.named)

    names_in : (name : List ℕ) → In name (map (symbol_name parts) (constructors parts sort)) → In name (con_names cs)
    names_in name at = let p = from_map (constructors parts sort) name at in
        let f = found p.0 p.1 in subst (λ z. In z (con_names cs)) (sym (named_so p.0 f) ∙ sym p.2) (in_map (λ (c : CaseRow). c.con) f.is_in)
      where
        from_map : (xs : List SymId) (name : List ℕ) → In name (map (symbol_name parts) xs) → (c : SymId) × In c xs × (name ≡ symbol_name parts c)
        from_map [] name at = elim at [ ]
        from_map (x ∷ xs) name here = (x, here, refl)
        from_map (x ∷ xs) name (there at) = let r = from_map xs name at in (r.0, there r.1, r.2)

    cons_in : (cs' : List CaseRow) → Each (CaseOk text parts k n args result sort) cs' → (name : List ℕ) → In name (con_names cs')
        → In name (map (symbol_name parts) (constructors parts sort))
    cons_in [] have name at = elim at [ ]
    cons_in (c ∷ cs') have name here =
        let o = have.0 in
        let plain : 0 + o.number ≡ o.number = omega arith in
        let member : In (record { 0 = o.number }) (constructors parts sort) =
        subst (λ m. In (record { 0 = m }) (constructors parts sort)) plain (of_cons 0 parts.symbols sort o.number o.con o.declared o.of) in
        subst (λ z. In z (map (symbol_name parts) (constructors parts sort))) (symbol_named text parts declares c.con o.number o.numbered) (in_map (symbol_name parts) member)
    cons_in (c ∷ cs') have name (there at) = cons_in cs' have.1 name at

    within : (c : SymId) → In c (constructors parts sort) → c.0 < length parts.symbol_names
    within c at =
        let i = cons_of 0 parts.symbols sort c at in
        let e : c.0 ≡ 0 + i.place = ap (λ (z : SymId). z.0) i.is in
        let l : i.place < length parts.symbols = slice_get_within parts.symbols i.place (sym.Con i.con) i.at in
        let o : length parts.symbol_names ≡ length parts.symbols = one_each in omega arith

    apart : (x y : SymId) → In x (constructors parts sort) → In y (constructors parts sort) → symbol_name parts x ≡ symbol_name parts y → x ≡ y
    apart x y at_x at_y e =
        let a = number_again parts.symbol_names x.0 distinct (within x at_x) in
        let b = number_again parts.symbol_names y.0 distinct (within y at_y) in
        ap (λ m. record { 0 = m }) (some_is x.0 y.0 (sym a ∙ ap (number_of parts.symbol_names) e ∙ b))

    as_many : length (con_names cs) ≡ length (constructors parts sort)
    as_many =
        let up : length (con_names cs) ≤ length (map (symbol_name parts) (constructors parts sort)) =
        no_longer (con_names cs) (map (symbol_name parts) (constructors parts sort)) (new_distinct [] (con_names cs) new) (cons_in cs oks) in
        let down : length (map (symbol_name parts) (constructors parts sort)) ≤ length (con_names cs) =
        no_longer (map (symbol_name parts) (constructors parts sort)) (con_names cs)
        (map_distinct (symbol_name parts) (constructors parts sort) (cons_distinct 0 parts.symbols sort) apart) names_in in
        let e : length (map (symbol_name parts) (constructors parts sort)) ≡ length (constructors parts sort) = length-map (constructors parts sort) (symbol_name parts) in
        omega arith

    each_line : (at : ℕ) (con : SymId) (body : Body) → slice_get (constructors parts sort) at ≡ Some con
        → slice_get (map (stated_case text (cases_then cs rest)) (constructors parts sort)) at ≡ Some body
        → In (line.CaseLine (symbol_name parts con) (named_body parts body)) (case_lines cs)
    each_line at con body e g =
        let m = mapped_at (stated_case text (cases_then cs rest)) (constructors parts sort) at con body e g in
        let f = found con m.0 in
        let o = of_each (CaseOk text parts k n args result sort) f.is_in oks in
        let written : named_body parts body ≡ f.row.body = ap (named_body parts) (m.1 ∙ f.case) ∙ o.body.named in
        subst (λ z. In z (case_lines cs)) (sym (ap₂ line.CaseLine (named_so con f) written)) (in_lines cs f.row f.is_in)

    match_is : MatchIs text parts k n args result sort cs rest
    match_is = record {
      cases = are_cases parts (λ fields body. IsBody parts (formed_at k (Some n) fields args) result body) (stated_case text (cases_then cs rest)) (constructors parts sort) con_case;
      lines = record { one_each = lines_count cs ∙ as_many; each = each_line };
    }

-- The rules of a function

abbrev pub rule_lines : Rules → List RawLine
rule_lines (single t) = line.BodyLine t ∷ []
rule_lines (matching n cs) = line.MatchLine n ∷ case_lines cs

pub rules_split : (r : Rules) (rest : List RawLine) → rules_then r rest ≡ rule_lines r ++ rest
rules_split (single t) rest = refl
rules_split (matching n cs) rest = ap (λ z. line.MatchLine n ∷ z) (cases_split cs rest)

abbrev pub fun_at : Whole → List SortId → SortId → List RawLine → Fun
fun_at text args result lines = record { args = args; result = result; place = stated_place lines; cases = stated_bodies text args lines }

pub record RulesOk (parts : SigParts) (k : ℕ) (fun : Fun) (lines : List RawLine) : Type 0 where
  pub fits : FitsPlace parts (record { 0 = k }) fun fun.place
  pub rules : AreRules parts fun fun.place lines

matched_sort : (text : Whole) (cases : List (List ℕ)) (o : Option SortId) → match_faults text cases o ≡ None
    → (sort : SortId) × (o ≡ Some sort) × (list_all (has_case text cases) (constructors_from 0 text.symbols sort) ≡ true)
matched_sort text cases None e = none_is kind.Arity (sym e)
matched_sort text cases (Some sort) e = (sort, refl, not_false _ (fault_none _ kind.CaseMissing e))

at_place : (parts : SigParts) (k : ℕ) (fun : Fun) (lines : List RawLine) (place : Option ℕ) → place ≡ fun.place
    → FitsPlace parts (record { 0 = k }) fun place → AreRules parts fun place lines → RulesOk parts k fun lines
at_place parts k fun lines place e f r = record {
  fits = subst (FitsPlace parts (record { 0 = k }) fun) e f;
  rules = subst (λ p. AreRules parts fun p lines) e r;
}

pub rules_sound : (text : Whole) (parts : SigParts) (seen : Seen) (k : ℕ) (args : List SortId) (result : SortId) (r : Rules) (rest : List RawLine) → Declares text parts
    → AreDistinct parts.symbol_names → length parts.symbol_names ≡ length parts.symbols → IsAt text seen k args result → seen.place ≡ None → length args ≤ 8
    → case_names rest ≡ [] → RulesGood text seen r rest → RulesSpelled r → RulesOk parts k (fun_at text args result (rules_then r rest)) (rule_lines r)
rules_sound text parts seen k args result (single t) rest declares distinct one_each at start few none good sizes =
    let b = body_ok text parts seen k args result [] t declares at good sizes in
    let is : IsBody parts (formed_at k None [] args) result (stated_body text t) =
    subst (λ p. IsBody parts (formed_at k p [] args) result (stated_body text t)) start b.is in
    at_place parts k (fun_at text args result (line.BodyLine t ∷ rest)) (line.BodyLine t ∷ []) None refl (stated_body text t, refl, is)
    (stated_body text t, refl, ap (λ z. line.BodyLine z ∷ []) (sym b.named))
rules_sound text parts seen k args result (matching n cs) rest declares distinct one_each at start few none good sizes =
    let m = matched_sort text (case_names (cases_then cs rest)) (slice_get (wanted_of (own_symbol text seen)) n) good.0 in
    let sort = m.0 in
    let has : slice_get args n ≡ Some sort = ap (λ l. slice_get l n) (sym at.wants) ∙ m.1 in
    let within : n < length args = slice_get_within args n sort has in
    let low : n ≤ 4294967295 = omega arith in
    let place : ◌≡◌ {A = Option ℕ} (Some n) (Some (short n)) = ap Some (sym (short_is n low)) in
    let cons : constructors_from 0 text.symbols sort ≡ constructors parts sort = ap (λ l. constructors_from 0 l sort) declares.symbols ∙ cons_headed 0 parts.symbols sort in
    let c = cases_ok text parts (record { sorts = seen.sorts; symbols = seen.symbols; place = Some n; cases = []; pools = seen.pools; values = seen.values })
    k n args result sort cs declares (record { owner_is = at.owner_is; wants = at.wants; gives = at.gives }) refl has good.1 sizes in
    let complete : list_all (has_case text (case_names (cases_then cs rest))) (constructors parts sort) ≡ true =
    ap (list_all (has_case text (case_names (cases_then cs rest)))) (sym cons) ∙ m.2 in
    let is = match_is text parts declares distinct one_each k n args result sort cs rest none c.one c.other complete in
    let bodies : map (stated_case text (cases_then cs rest)) (constructors parts sort) ≡ stated_bodies text args (line.MatchLine n ∷ cases_then cs rest) =
    sym (ap (stated_cases text (cases_then cs rest)) has ∙ ap (map (stated_case text (cases_then cs rest))) cons) in
    at_place parts k (fun_at text args result (line.MatchLine n ∷ cases_then cs rest)) (line.MatchLine n ∷ case_lines cs) (Some n) place
    (sort, has, subst (AreCases parts (λ fields body. IsBody parts (formed_at k (Some n) fields args) result body) (constructors parts sort)) bodies is.cases)
    (sort, case_lines cs, has, refl, subst (λ b. AreCaseLines parts (constructors parts sort) b (case_lines cs)) bodies is.lines)
