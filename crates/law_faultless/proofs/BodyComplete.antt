-- A body and a value that are well-formed show no fault.
use Rattle.std.proofs.Common.{◌≡◌, ℕ, suc, ◌<◌, ◌≤◌, List, [], ◌∷◌, map, length, Bool, true, false, true≢false, not, ◌&&◌, ◌||◌, ◌==◌, nat_lt, eqb-true, eq-eqb, rules, arith, if◌then◌else◌, Option, Some, None, slice_get, refl, sym, ap, ap₂, ◌∙◌, subst}
use Rattle.std.specs.List.{list_all}
use Rattle.std.specs.Option.{option_or}
use Rattle.std.proofs.lemmas.List.{length-map}
use Rattle.std.proofs.lemmas.Option.{slice_get_within}
use Rattle.law_sig.specs.Lists.{Each}
use Rattle.law_sig.specs.Signature.{args_of, result_of, symbol_at, has_sort, same_sorts, sort_over, sort_of}
use Rattle.law_sig.specs.WellFormed.{IsWellFormed, Part, part_step, falls, may_call, where_true, is_function, is_constructor, value_step}
use Rattle.law_sig.specs.declared.tree.SortId.{SortId}
use Rattle.law_sig.specs.declared.tree.SymId.{SymId}
use Rattle.law_sig.specs.declared.tree.Tree.{Tree}
use Rattle.law_sig.specs.declared.tree.Tree.TheVariants.{Var, App}
use Rattle.law_sig.specs.declared.tree.Tree.TheFolds.{fold-Tree}
use Rattle.law_sig.specs.declared.tree.Body.{Body}
use Rattle.law_sig.specs.declared.tree.Body.TheOpen as b
use Rattle.law_sig.specs.declared.tree.Body.TheViews.{out-Body}
use Rattle.law_sig.specs.declared.parts.Fun.{Fun}
use Rattle.law_sig.specs.declared.parts.Sym.{Sym}
use Rattle.law_sig.specs.declared.parts.Sym.TheVariants as sym
use Rattle.law_sig.specs.declared.parts.SigParts.{SigParts}
use Rattle.law_laws.proofs.TreeFacts.{tree_induct, fold-Var, fold-App}
use Rattle.law_laws.proofs.BodyFacts.{body_induct, some_is, none_is}
use Rattle.law_laws.proofs.Sorts.{HaveSorts, sorted_app, same_sort_is, same_sort_itself, both_true}
use Rattle.law_lines.specs.declared.raw.RawHead.{RawHead}
use Rattle.law_lines.specs.declared.raw.RawHead.TheVariants as head
use Rattle.law_lines.specs.declared.raw.RawTerm.{RawTerm}
use Rattle.law_lines.specs.declared.raw.RawTerm.TheOpen.{RawTerm-F}
use Rattle.law_lines.specs.declared.raw.RawTerm.TheViews.{out-roll-RawTerm}
use Rattle.law_typing.specs.Names.{number_of}
use Rattle.law_typing.specs.Naming.{symbol_name, raw_term, named_term, name_step, named_body, name_body_step}
use Rattle.law_typing.specs.TermFaults.{fault_if, mismatch, falls_at, symbol_faults, name_faults, atom_faults, node_faults, is_field, is_field_term, head_symbol, symbol_of, wanted_of, term_fault}
use Rattle.law_typing.specs.LineFaults.{value_scope}
use Rattle.law_typing.specs.declared.errors.TypeKind.{TypeKind}
use Rattle.law_typing.specs.declared.errors.TypeKind.TheVariants as kind
use Rattle.law_typing.specs.declared.scope.Scope.{Scope}
use Rattle.law_typing.specs.declared.whole.Whole.{Whole}
use Rattle.law_typing.proofs.TermFacts.{args_fault}
use Rattle.law_typing.proofs.TreeOfFacts.{number_again}
use Rattle.law_typing.proofs.SideFacts.{Declares, headed, headed_args, headed_result, in_text, term_raw}
use Rattle.law_typing.proofs.BodySound.{body_fold, formed_scope, part_of, falls_same}
use Rattle.law_typing.proofs.RulesSound.{scope_at}

same_wanted : (s : SortId) → mismatch (Some s) s ≡ None
same_wanted s = ap (λ c. fault_if (not c) (kind.SortMismatch s s)) (same_sort_itself s)

pub both_none : (a c : Option TypeKind) → a ≡ None → c ≡ None → option_or a c ≡ None
both_none a c e k = ap (λ o. option_or o c) e ∙ k

pub no_fault : (c : Bool) (k : TypeKind) → c ≡ false → fault_if c k ≡ None
no_fault c k e = ap (λ z. fault_if z k) e

-- A symbol's node

pub node_none : (text : Whole) (parts : SigParts) (scope : Scope) (fields : List Bool) (wanted : Option SortId) (f : SymId) (symbol : Sym)
    → Declares text parts → IsWellFormed parts → symbol_at parts f ≡ Some symbol
    → ((symbol_faults scope f.0 fields wanted (Some (headed symbol))) ≡ None)
    → (node_faults text scope fields wanted (head.Name (symbol_name parts f)) ≡ None) × (wanted_of (head_symbol text (head.Name (symbol_name parts f))) ≡ args_of symbol)
node_none text parts scope fields wanted f symbol declares formed declared e =
    let within : f.0 < length parts.symbol_names = subst (λ n. f.0 < n) (sym formed.one_name_each) (slice_get_within parts.symbols f.0 symbol declared) in
    let number : number_of text.names (symbol_name parts f) ≡ Some f.0 =
    ap (λ names. number_of names (symbol_name parts f)) declares.names ∙ number_again parts.symbol_names f.0 formed.symbol_names.distinct within in
    let found : slice_get text.symbols f.0 ≡ Some (headed symbol) = in_text text parts declares f.0 symbol declared in (
      ap (name_faults text scope fields wanted) number ∙ ap (symbol_faults scope f.0 fields wanted) found ∙ e,
      ap (λ o. wanted_of (symbol_of text o)) number ∙ ap wanted_of found ∙ headed_args symbol,
    )

-- Parts of a body

abbrev pub HaveParts : List Part → List SortId → Type 0
HaveParts [] [] = Unit {0}
HaveParts [] (w ∷ ws) = ⊥
HaveParts (p ∷ ps) [] = ⊥
HaveParts (p ∷ ps) (w ∷ ws) = (p.sort ≡ Some w) × HaveParts ps ws

have_parts : (ps : List Part) (ws : List SortId) → same_sorts (map (λ (p : Part). p.sort) ps) ws ≡ true → HaveParts ps ws
have_parts [] [] e = tt
have_parts [] (w ∷ ws) e = absurd (true≢false (sym e))
have_parts (p ∷ ps) [] e = absurd (true≢false (sym e))
have_parts (p ∷ ps) (w ∷ ws) e =
    let c = both_true (has_sort p.sort w) (same_sorts (map (λ (p : Part). p.sort) ps) ws) e in (by p.sort refl c.0, have_parts ps ws c.1)
  where
    by : (o : Option SortId) → p.sort ≡ o → has_sort o w ≡ true → p.sort ≡ Some w
    by None k h = absurd (true≢false (sym h))
    by (Some s) k h = k ∙ ap Some (same_sort_is s w h)

parts_count : (ps : List Part) (ws : List SortId) → HaveParts ps ws → length ps ≡ length ws
parts_count [] [] h = refl
parts_count [] (w ∷ ws) h = absurd h
parts_count (p ∷ ps) [] h = absurd h
parts_count (p ∷ ps) (w ∷ ws) h = ap suc (parts_count ps ws h.1)

-- what a symbol over parts gives, where it gives something
pub record Over (o : Option Sym) (ps : List Part) (sort : SortId) : Type 0 where
  pub symbol : Sym
  pub declared : o ≡ Some symbol
  pub result : result_of symbol ≡ sort
  pub args : HaveParts ps (args_of symbol)

pub over_found : (o : Option Sym) (ps : List Part) (sort : SortId) → sort_over o (map (λ (p : Part). p.sort) ps) ≡ Some sort → Over o ps sort
over_found None ps sort e = none_is sort e
over_found (Some symbol) ps sort e = by (same_sorts (map (λ (p : Part). p.sort) ps) (args_of symbol)) refl e
  where
    by : (c : Bool) → same_sorts (map (λ (p : Part). p.sort) ps) (args_of symbol) ≡ c → (if c then Some (result_of symbol) else None) ≡ Some sort → Over (Some symbol) ps sort
    by true k h = record { symbol = symbol; declared = refl; result = some_is (result_of symbol) sort h; args = have_parts ps (args_of symbol) k }
    by false k h = none_is sort h

pub where_found : (c : Bool) (o : Option SortId) (sort : SortId) → where_true c o ≡ Some sort → (c ≡ true) × (o ≡ Some sort)
where_found true o sort e = (refl, e)
where_found false o sort e = none_is sort e

-- a term is directly a field where its part is
field_of : (h : RawHead) (args : List RawTerm) → is_field_term (raw_term h args) ≡ is_field h
field_of h args = let l : RawTerm-F RawTerm = record { head = h; args = args } in ap (λ (z : RawTerm-F RawTerm). is_field z.head) (out-roll-RawTerm l)

field_same : (parts : SigParts) (scope : Scope) (t : Body) → is_field_term (named_body parts t) ≡ (part_of parts scope t).is_field
field_same parts scope t = by (out-Body t) refl
  where
    by : (y : b.Body-F Body) → out-Body t ≡ y → is_field_term (named_body parts t) ≡ (part_of parts scope t).is_field
    by (b.Field n) e = ap is_field_term (body_fold RawTerm (name_body_step parts) t (b.Field n) e) ∙ field_of (head.Field n) []
        ∙ sym (ap (λ (p : Part). p.is_field) (body_fold Part (part_step parts (formed_scope scope)) t (b.Field n) e))
    by (b.Param n) e = ap is_field_term (body_fold RawTerm (name_body_step parts) t (b.Param n) e) ∙ field_of (head.Param n) []
        ∙ sym (ap (λ (p : Part). p.is_field) (body_fold Part (part_step parts (formed_scope scope)) t (b.Param n) e))
    by (b.Make f args) e = ap is_field_term (body_fold RawTerm (name_body_step parts) t (b.Make f args) e) ∙ field_of (head.Name (symbol_name parts f)) (map (named_body parts) args)
        ∙ sym (ap (λ (p : Part). p.is_field) (body_fold Part (part_step parts (formed_scope scope)) t (b.Make f args) e))
    by (b.Call f args) e = ap is_field_term (body_fold RawTerm (name_body_step parts) t (b.Call f args) e) ∙ field_of (head.Name (symbol_name parts f)) (map (named_body parts) args)
        ∙ sym (ap (λ (p : Part). p.is_field) (body_fold Part (part_step parts (formed_scope scope)) t (b.Call f args) e))

fields_same : (parts : SigParts) (scope : Scope) (ts : List Body) → map (λ (p : Part). p.is_field) (map (part_of parts scope) ts) ≡ map is_field_term (map (named_body parts) ts)
fields_same parts scope [] = refl
fields_same parts scope (t ∷ ts) = ap₂ ◌∷◌ (sym (field_same parts scope t)) (fields_same parts scope ts)

abbrev pub Passes : Whole → SigParts → Scope → Body → Type 0
Passes text parts scope t = (wanted : Option SortId) (sort : SortId) → (part_of parts scope t).sort ≡ Some sort → mismatch wanted sort ≡ None
    → term_fault text scope wanted (named_body parts t) ≡ None

args_pass : (text : Whole) (parts : SigParts) (scope : Scope) (ts : List Body) (ws : List SortId) → Each (Passes text parts scope) ts
    → HaveParts (map (part_of parts scope) ts) ws → args_fault text scope ws (map (named_body parts) ts) ≡ None
args_pass text parts scope [] [] have sorts = refl
args_pass text parts scope [] (w ∷ ws) have sorts = absurd sorts
args_pass text parts scope (t ∷ ts) [] have sorts = absurd sorts
args_pass text parts scope (t ∷ ts) (w ∷ ws) have sorts =
    both_none (term_fault text scope (Some w) (named_body parts t)) (args_fault text scope ws (map (named_body parts) ts))
    (have.0 (Some w) w sorts.0 (same_wanted w)) (args_pass text parts scope ts ws have.1 sorts.1)

and_right : (a : Bool) → (a && false) ≡ false
and_right true = refl
and_right false = refl

module _ (text : Whole) (parts : SigParts) (declares : Declares text parts) (formed : IsWellFormed parts) (k : ℕ) (fun : Fun)
    (owns : slice_get parts.symbols k ≡ Some (sym.Fun fun)) (place : Option ℕ) (fields : List SortId)
  where
    symbol_ok : (f : SymId) (ts : List Body) (wanted : Option SortId) (sort : SortId) (symbol : Sym) → result_of symbol ≡ sort → HaveParts (map (part_of (parts) (scope_at k place fields fun.args)) ts) (args_of symbol)
        → mismatch wanted sort ≡ None → (is_function (Some symbol) && nat_lt k f.0) ≡ false
        → ((f.0 == k) && not (falls place (map (part_of parts (scope_at k place fields fun.args)) ts))) ≡ false
        → symbol_faults (scope_at k place fields fun.args) f.0 (map is_field_term (map (named_body parts) ts)) wanted (Some (headed symbol)) ≡ None
    symbol_ok f ts wanted sort symbol result args fits later falling =
        let sc = scope_at k place fields fun.args in
        let count : length (map is_field_term (map (named_body parts) ts)) ≡ length (args_of (headed symbol)) =
        length-map (map (named_body parts) ts) is_field_term ∙ length-map ts (named_body parts) ∙ sym (length-map ts (part_of parts sc))
        ∙ parts_count (map (part_of parts sc) ts) (args_of symbol) args ∙ ap length (sym (headed_args symbol)) in
        let fun_same : is_function (Some (headed symbol)) ≡ is_function (Some symbol) = headed_fun symbol in
        both_none (fault_if (is_function (Some (headed symbol)) && nat_lt k f.0) kind.LaterCall) _
        (no_fault _ kind.LaterCall (ap (λ c. c && nat_lt k f.0) fun_same ∙ later))
        (both_none (fault_if (not (length (map is_field_term (map (named_body parts) ts)) == length (args_of (headed symbol)))) kind.Arity) _
        (no_fault _ kind.Arity (ap not (eq-eqb _ _ count)))
        (both_none (mismatch wanted (result_of (headed symbol))) _ (ap (mismatch wanted) (headed_result symbol ∙ result) ∙ fits)
        (no_fault _ kind.NotSmaller (ap (λ c. (f.0 == k) && not c) (sym (falls_same place (map (part_of parts sc) ts) ∙ ap (falls_at place) (fields_same parts sc ts))) ∙ falling))))
      where
        headed_fun : (s : Sym) → is_function (Some (headed s)) ≡ is_function (Some s)
        headed_fun (sym.Con con) = refl
        headed_fun (sym.Fun g) = refl

    pub over_passes : (f : SymId) (ts : List Body) (wanted : Option SortId) (sort : SortId) → Each (Passes text parts (scope_at k place fields fun.args)) ts
        → Over (symbol_at parts f) (map (part_of parts (scope_at k place fields fun.args)) ts) sort → mismatch wanted sort ≡ None
        → ((s : Sym) → symbol_at parts f ≡ Some s → (is_function (Some s) && nat_lt k f.0) ≡ false)
        → ((f.0 == k) && not (falls place (map (part_of parts (scope_at k place fields fun.args)) ts))) ≡ false
        → term_fault text (scope_at k place fields fun.args) wanted (raw_term (head.Name (symbol_name parts f)) (map (named_body parts) ts)) ≡ None
    over_passes f ts wanted sort have o fits later falling =
        let sc = scope_at k place fields fun.args in
        let terms = map (named_body parts) ts in
        let n = node_none text parts sc (map is_field_term terms) wanted f o.symbol declares formed o.declared
        (symbol_ok f ts wanted sort o.symbol o.result o.args fits (later o.symbol o.declared) falling) in
        term_raw text sc wanted (head.Name (symbol_name parts f)) terms
        ∙ both_none (node_faults text sc (map is_field_term terms) wanted (head.Name (symbol_name parts f)))
        (args_fault text sc (wanted_of (head_symbol text (head.Name (symbol_name parts f)))) terms) n.0
        (ap (λ l. args_fault text sc l terms) n.1 ∙ args_pass text parts sc ts (args_of o.symbol) have o.args)

    atom_passes : (h : RawHead) (o : Option SortId) (wanted : Option SortId) (sort : SortId) → o ≡ Some sort → mismatch wanted sort ≡ None
        → node_faults text (scope_at k place fields fun.args) [] wanted h ≡ atom_faults 0 wanted o → wanted_of (head_symbol text h) ≡ []
        → term_fault text (scope_at k place fields fun.args) wanted (raw_term h []) ≡ None
    atom_passes h o wanted sort e fits is none =
        let sc = scope_at k place fields fun.args in
        term_raw text sc wanted h [] ∙ both_none (node_faults text sc [] wanted h) (args_fault text sc (wanted_of (head_symbol text h)) [])
        (is ∙ ap (atom_faults 0 wanted) e ∙ fits) (ap (λ l. args_fault text sc l []) none)

    -- the function at work is no constructor
    not_own : (f : SymId) → is_constructor (symbol_at parts f) ≡ true → (f.0 == k) ≡ false
    not_own f e = by (f.0 == k) refl
      where
        by : (c : Bool) → (f.0 == k) ≡ c → (f.0 == k) ≡ false
        by false h = h
        by true h = absurd (true≢false (sym e ∙ ap (λ n. is_constructor (slice_get parts.symbols n)) (eqb-true f.0 k h) ∙ ap is_constructor owns))

    con_no_fun : (f : SymId) → is_constructor (symbol_at parts f) ≡ true → (s : Sym) → symbol_at parts f ≡ Some s → is_function (Some s) ≡ false
    con_no_fun f e (sym.Con con) d = refl
    con_no_fun f e (sym.Fun g) d = absurd (true≢false (sym e ∙ ap is_constructor d))

    -- a call that is allowed is not of a later function, and falls where it is of the function itself
    not_later : (n : ℕ) (c : Bool) → (nat_lt n k || ((n == k) && c)) ≡ true → (nat_lt k n ≡ false) × (((n == k) && not c) ≡ false)
    not_later n c e = by (nat_lt n k) refl e
      where
        by : (d : Bool) → nat_lt n k ≡ d → (d || ((n == k) && c)) ≡ true → (nat_lt k n ≡ false) × (((n == k) && not c) ≡ false)
        by true h q =
            let low : n < k = search (rules, h) in
            let after : nat_lt k n ≡ false = search (rules, low) in
            let other : (n == k) ≡ false = apart (n == k) refl low in
            (after, ap (λ z. z && not c) other)
          where
            apart : (d : Bool) → (n == k) ≡ d → n < k → (n == k) ≡ false
            apart false s l = s
            apart true s l = let same : n ≡ k = eqb-true n k s in absurd (omega arith)
        by false h q =
            let p = both_true (n == k) c q in
            let same : n ≡ k = eqb-true n k p.0 in
            let low : n ≤ k = omega arith in
            let after : nat_lt k n ≡ false = search (rules, low) in
            (after, ap (λ z. (n == k) && not z) p.1 ∙ and_right (n == k))

    pub body_passes : (t : Body) → Passes text parts (scope_at k place fields fun.args) t
    body_passes = body_induct (Passes text parts (scope_at k place fields fun.args))
        (λ t n e wanted sort is fits.
        ap (term_fault text (scope_at k place fields fun.args) wanted) (body_fold RawTerm (name_body_step parts) t (b.Field n) e)
        ∙ atom_passes (head.Field n) (slice_get fields n) wanted sort
        (sym (ap (λ (p : Part). p.sort) (body_fold Part (part_step parts (formed_scope (scope_at k place fields fun.args))) t (b.Field n) e)) ∙ is) fits refl refl)
        (λ t n e wanted sort is fits.
        ap (term_fault text (scope_at k place fields fun.args) wanted) (body_fold RawTerm (name_body_step parts) t (b.Param n) e)
        ∙ atom_passes (head.Param n) (slice_get fun.args n) wanted sort
        (sym (ap (λ (p : Part). p.sort) (body_fold Part (part_step parts (formed_scope (scope_at k place fields fun.args))) t (b.Param n) e)) ∙ is) fits refl refl)
        (λ t f args e have wanted sort is fits.
        let sc = scope_at k place fields fun.args in
        let w = where_found (is_constructor (symbol_at parts f)) (sort_over (symbol_at parts f) (map (λ (p : Part). p.sort) (map (part_of parts sc) args))) sort
        (sym (ap (λ (p : Part). p.sort) (body_fold Part (part_step parts (formed_scope sc)) t (b.Make f args) e)) ∙ is) in
        ap (term_fault text sc wanted) (body_fold RawTerm (name_body_step parts) t (b.Make f args) e)
        ∙ over_passes f args wanted sort have (over_found (symbol_at parts f) (map (part_of parts sc) args) sort w.1) fits
        (λ s d. ap (λ c. c && nat_lt k f.0) (con_no_fun f w.0 s d)) (ap (λ c. c && not (falls place (map (part_of parts sc) args))) (not_own f w.0)))
        (λ t f args e have wanted sort is fits.
        let sc = scope_at k place fields fun.args in
        let ps = map (part_of parts sc) args in
        let w = where_found (is_function (symbol_at parts f) && may_call (formed_scope sc) f ps) (sort_over (symbol_at parts f) (map (λ (p : Part). p.sort) ps)) sort
        (sym (ap (λ (p : Part). p.sort) (body_fold Part (part_step parts (formed_scope sc)) t (b.Call f args) e)) ∙ is) in
        let c = not_later f.0 (falls place ps) (both_true (is_function (symbol_at parts f)) (may_call (formed_scope sc) f ps) w.0).1 in
        ap (term_fault text sc wanted) (body_fold RawTerm (name_body_step parts) t (b.Call f args) e)
        ∙ over_passes f args wanted sort have (over_found (symbol_at parts f) ps sort w.1) fits
        (λ s d. ap (λ z. is_function (Some s) && z) c.0 ∙ and_right (is_function (Some s))) c.1)

-- Values

abbrev PassesValue : Whole → SigParts → Tree → Type 0
PassesValue text parts t = (sort : SortId) → sort_of parts t ≡ Some sort → fold-Tree Bool (value_step parts) t ≡ true
    → term_fault text value_scope (Some sort) (named_term parts t) ≡ None

values_pass : (text : Whole) (parts : SigParts) (ts : List Tree) (ws : List SortId) → Each (PassesValue text parts) ts → HaveSorts parts ts ws
    → list_all (λ v. v) (map (fold-Tree Bool (value_step parts)) ts) ≡ true → args_fault text value_scope ws (map (named_term parts) ts) ≡ None
values_pass text parts [] [] have sorts made = refl
values_pass text parts [] (w ∷ ws) have sorts made = absurd sorts
values_pass text parts (t ∷ ts) [] have sorts made = absurd sorts
values_pass text parts (t ∷ ts) (w ∷ ws) have sorts made =
    let c = both_true (fold-Tree Bool (value_step parts) t) (list_all (λ v. v) (map (fold-Tree Bool (value_step parts)) ts)) made in
    both_none (term_fault text value_scope (Some w) (named_term parts t)) (args_fault text value_scope ws (map (named_term parts) ts))
    (have.0 w sorts.0 c.0) (values_pass text parts ts ws have.1 sorts.1 c.1)

sorts_count : (parts : SigParts) (ts : List Tree) (ws : List SortId) → HaveSorts parts ts ws → length ts ≡ length ws
sorts_count parts [] [] h = refl
sorts_count parts [] (w ∷ ws) h = absurd h
sorts_count parts (t ∷ ts) [] h = absurd h
sorts_count parts (t ∷ ts) (w ∷ ws) h = ap suc (sorts_count parts ts ws h.1)

pub value_passes : (text : Whole) (parts : SigParts) → Declares text parts → IsWellFormed parts → (t : Tree) → PassesValue text parts t
value_passes text parts declares formed = tree_induct (PassesValue text parts) at_var at_app
  where
    at_var : (s : SortId) (i : ℕ) → PassesValue text parts (Var s i)
    at_var s i sort is made = absurd (true≢false (sym made ∙ fold-Var Bool (value_step parts) s i))

    no_function : (s : Sym) → is_constructor (Some s) ≡ true → is_function (Some (headed s)) ≡ false
    no_function (sym.Con con) e = refl
    no_function (sym.Fun g) e = absurd (true≢false (sym e))

    at_app : (f : SymId) (args : List Tree) → Each (PassesValue text parts) args → PassesValue text parts (App f args)
    at_app f args have sort is made =
        let a = sorted_app parts f args sort is in
        let c = both_true (is_constructor (symbol_at parts f)) (list_all (λ v. v) (map (fold-Tree Bool (value_step parts)) args)) (sym (fold-App Bool (value_step parts) f args) ∙ made) in
        let terms = map (named_term parts) args in
        let fields = map is_field_term terms in
        let count : length fields ≡ length (args_of (headed a.symbol)) =
        length-map terms is_field_term ∙ length-map args (named_term parts) ∙ sorts_count parts args (args_of a.symbol) a.sorts ∙ ap length (sym (headed_args a.symbol)) in
        let con : is_function (Some (headed a.symbol)) ≡ false = no_function a.symbol (sym (ap is_constructor a.declared) ∙ c.0) in
        let n = node_none text parts value_scope fields (Some sort) f a.symbol declares formed a.declared
        (both_none (fault_if (is_function (Some (headed a.symbol))) kind.UnknownName) _ (no_fault _ kind.UnknownName con)
        (both_none (fault_if (not (length fields == length (args_of (headed a.symbol)))) kind.Arity) _ (no_fault _ kind.Arity (ap not (eq-eqb _ _ count)))
        (both_none (mismatch (Some sort) (result_of (headed a.symbol))) _ (ap (mismatch (Some sort)) (headed_result a.symbol ∙ a.result) ∙ same_wanted sort) refl))) in
        ap (term_fault text value_scope (Some sort)) (fold-App RawTerm (name_step parts) f args)
        ∙ term_raw text value_scope (Some sort) (head.Name (symbol_name parts f)) terms
        ∙ both_none (node_faults text value_scope fields (Some sort) (head.Name (symbol_name parts f)))
        (args_fault text value_scope (wanted_of (head_symbol text (head.Name (symbol_name parts f)))) terms) n.0
        (ap (λ l. args_fault text value_scope l terms) n.1 ∙ values_pass text parts args (args_of a.symbol) have a.sorts c.1)
