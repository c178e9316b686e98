-- What a written term without faults states: it is well-sorted, and written so.
use Rattle.std.proofs.Common.{◌≡◌, ℕ, zero, suc, ◌<◌, List, [], ◌∷◌, map, length, Bool, true, false, true≢false, not, ◌&&◌, ◌==◌, nat_lt, eqb-true, rules, arith, Option, Some, None, slice_get, slice_index_or, unwrap_or, IsTrue, refl, sym, ap, ap₂, ◌∙◌, subst}
use Rattle.std.specs.List.{list_all}
use Rattle.std.specs.Option.{option_or}
use Rattle.std.proofs.lemmas.List.{length-map}
use Rattle.std.proofs.lemmas.Option.{slice_get_within, get_or_from_slice_get}
use Rattle.law_sig.specs.Lists.{Each}
use Rattle.law_sig.specs.Signature.{args_of, result_of, sort_of, is_declared_sort}
use Rattle.law_sig.specs.WellFormed.{vars_step, value_step, is_function, is_constructor}
use Rattle.law_sig.specs.declared.tree.SortId.{SortId}
use Rattle.law_sig.specs.declared.tree.SymId.{SymId}
use Rattle.law_sig.specs.declared.tree.Tree.{Tree}
use Rattle.law_sig.specs.declared.tree.Tree.TheVariants.{Var, App}
use Rattle.law_sig.specs.declared.tree.Tree.TheFolds.{fold-Tree}
use Rattle.law_sig.specs.declared.parts.Sym.{Sym}
use Rattle.law_sig.specs.declared.parts.Sym.TheVariants as sym
use Rattle.law_sig.specs.declared.parts.SigParts.{SigParts}
use Rattle.law_laws.proofs.TreeFacts.{fold-Var, fold-App}
use Rattle.law_laws.proofs.BodyFacts.{none_is}
use Rattle.law_laws.proofs.Sorts.{HaveSorts, app_sorted, var_sorted, same_sort_is}
use Rattle.law_lines.specs.declared.raw.RawHead.{RawHead}
use Rattle.law_lines.specs.declared.raw.RawHead.TheVariants as head
use Rattle.law_lines.specs.declared.raw.RawTerm.{RawTerm}
use Rattle.law_lines.specs.declared.raw.RawTerm.TheOpen.{RawTerm-F}
use Rattle.law_lines.specs.declared.raw.RawTerm.TheViews.{out-roll-RawTerm}
use Rattle.law_lines.specs.declared.raw.RawTerm.TheFolds.{fold-roll-RawTerm}
use Rattle.law_typing.specs.Names.{number_of}
use Rattle.law_typing.specs.Naming.{sort_name, symbol_name, raw_term, named_term, name_step}
use Rattle.law_typing.specs.TermFaults.{fault_if, mismatch, is_value, is_side, is_body, falls_at, is_in_range, variable_faults, symbol_faults, name_faults, atom_faults, node_faults, is_field_term, head_symbol, symbol_of, wanted_of, term_fault}
use Rattle.law_typing.specs.LineFaults.{root_sort, head_sort, sort_given, name_sort, variable_sort}
use Rattle.law_typing.specs.Stated.{symbol_id, tree_over, stated_step, stated_tree}
use Rattle.law_typing.specs.Declarations.{sort_id}
use Rattle.law_typing.specs.declared.errors.TypeKind.{TypeKind}
use Rattle.law_typing.specs.declared.errors.TypeKind.TheVariants as kind
use Rattle.law_typing.specs.declared.scope.Scope.{Scope}
use Rattle.law_typing.specs.declared.scope.Standing.{Standing}
use Rattle.law_typing.specs.declared.scope.Standing.TheVariants as standing
use Rattle.law_typing.specs.declared.whole.Whole.{Whole}
use Rattle.law_typing.proofs.TermFacts.{args_fault}
use Rattle.law_typing.proofs.NumberFacts.{stands_at}
use Rattle.law_typing.proofs.TreeOfFacts.{raw_induct}
use Rattle.law_typing.proofs.SideFacts.{Declares, headed, headed_args, headed_result, in_parts, term_raw, vars_below}

-- No fault

pub fault_none : (b : Bool) (k : TypeKind) → fault_if b k ≡ None → b ≡ false
fault_none true k e = none_is k (sym e)
fault_none false k e = refl

pub neither : (a c : Option TypeKind) → option_or a c ≡ None → (a ≡ None) × (c ≡ None)
neither None c e = (refl, e)
neither (Some x) c e = none_is x (sym e)

pub not_false : (b : Bool) → not b ≡ false → b ≡ true
not_false true e = refl
not_false false e = absurd (true≢false e)

pub wanted_is : (wanted found : SortId) → mismatch (Some wanted) found ≡ None → wanted ≡ found
wanted_is wanted found e = same_sort_is wanted found (not_false _ (fault_none _ (kind.SortMismatch wanted found) e))

-- A name that shows no fault

pub record Named (text : Whole) (scope : Scope) (fields : List Bool) (wanted : Option SortId) (name : List ℕ) : Type 0 where
  pub number : ℕ
  pub symbol : Sym
  pub numbered : number_of text.names name ≡ Some number
  pub declared : slice_get text.symbols number ≡ Some symbol
  pub no_value : (is_value scope.standing && is_function (Some symbol)) ≡ false
  pub no_later : (is_body scope.standing && is_function (Some symbol) && nat_lt scope.owner number) ≡ false
  pub arity : length fields ≡ length (args_of symbol)
  pub fits : mismatch wanted (result_of symbol) ≡ None
  pub falls : (is_body scope.standing && (number == scope.owner) && not (falls_at scope.place fields)) ≡ false

pub named_found : (text : Whole) (scope : Scope) (fields : List Bool) (wanted : Option SortId) (name : List ℕ)
    → name_faults text scope fields wanted (number_of text.names name) ≡ None → Named text scope fields wanted name
named_found text scope fields wanted name e = by (number_of text.names name) refl e
  where
    inner : (number : ℕ) → number_of text.names name ≡ Some number → (o : Option Sym) → slice_get text.symbols number ≡ o
        → symbol_faults scope number fields wanted o ≡ None → Named text scope fields wanted name
    inner number k None d h = none_is kind.UnknownName (sym h)
    inner number k (Some symbol) d h =
        let a = neither (fault_if (is_value scope.standing && is_function (Some symbol)) kind.UnknownName) _ h in
        let b = neither (fault_if (is_body scope.standing && is_function (Some symbol) && nat_lt scope.owner number) kind.LaterCall) _ a.1 in
        let c = neither (fault_if (not (length fields == length (args_of symbol))) kind.Arity) _ b.1 in
        let d' = neither (mismatch wanted (result_of symbol)) _ c.1 in
        record {
          number = number;
          symbol = symbol;
          numbered = k;
          declared = d;
          no_value = fault_none _ kind.UnknownName a.0;
          no_later = fault_none _ kind.LaterCall b.0;
          arity = eqb-true (length fields) (length (args_of symbol)) (not_false _ (fault_none _ kind.Arity c.0));
          fits = d'.0;
          falls = fault_none _ kind.NotSmaller d'.1;
        }

    by : (o : Option ℕ) → number_of text.names name ≡ o → name_faults text scope fields wanted o ≡ None → Named text scope fields wanted name
    by None k h = none_is kind.UnknownName (sym h)
    by (Some number) k h = inner number k (slice_get text.symbols number) refl h

-- a variable that shows none
pub record Varied (text : Whole) (scope : Scope) (index count : ℕ) (wanted : Option SortId) (name : List ℕ) : Type 0 where
  pub number : ℕ
  pub numbered : number_of text.sorts name ≡ Some number
  pub side : is_side scope.standing ≡ true
  pub none : count ≡ 0
  pub range : is_in_range index (slice_get text.vars number) ≡ true
  pub fits : mismatch wanted (record { 0 = number }) ≡ None

pub varied_found : (text : Whole) (scope : Scope) (index count : ℕ) (wanted : Option SortId) (name : List ℕ)
    → variable_faults text scope index count wanted (number_of text.sorts name) ≡ None → Varied text scope index count wanted name
varied_found text scope index count wanted name e = by (number_of text.sorts name) refl e
  where
    by : (o : Option ℕ) → number_of text.sorts name ≡ o → variable_faults text scope index count wanted o ≡ None → Varied text scope index count wanted name
    by None k h =
        let a = neither (fault_if (not (is_side scope.standing)) kind.UnknownName) _ h in
        let b = neither (fault_if (not (count == 0)) kind.Arity) _ a.1 in
        none_is kind.UnknownSort (sym b.1)
    by (Some number) k h =
        let a = neither (fault_if (not (is_side scope.standing)) kind.UnknownName) _ h in
        let b = neither (fault_if (not (count == 0)) kind.Arity) _ a.1 in
        let c = neither (fault_if (not (is_in_range index (slice_get text.vars number))) kind.SettingRange) _ b.1 in
        record {
          number = number;
          numbered = k;
          side = not_false _ (fault_none _ kind.UnknownName a.0);
          none = eqb-true count 0 (not_false _ (fault_none _ kind.Arity b.0));
          range = not_false _ (fault_none _ kind.SettingRange c.0);
          fits = c.1;
        }

-- an atom that shows none
pub atom_found : (count : ℕ) (wanted : Option SortId) (o : Option SortId) → atom_faults count wanted o ≡ None
    → (sort : SortId) × (o ≡ Some sort) × (count ≡ 0) × (mismatch wanted sort ≡ None)
atom_found count wanted None e = none_is kind.Arity (sym e)
atom_found count wanted (Some sort) e =
    let a = neither (fault_if (not (count == 0)) kind.Arity) _ e in
    (sort, refl, eqb-true count 0 (not_false _ (fault_none _ kind.Arity a.0)), a.1)

-- names again

pub sort_named : (text : Whole) (parts : SigParts) → Declares text parts → (name : List ℕ) (number : ℕ) → number_of text.sorts name ≡ Some number
    → sort_name parts (record { 0 = number }) ≡ name
sort_named text parts declares name number e =
    get_or_from_slice_get parts.sort_names number name [] (ap (λ l. slice_get l number) (sym declares.sorts) ∙ stands_at text.sorts name number e)

pub symbol_named : (text : Whole) (parts : SigParts) → Declares text parts → (name : List ℕ) (number : ℕ) → number_of text.names name ≡ Some number
    → symbol_name parts (record { 0 = number }) ≡ name
symbol_named text parts declares name number e =
    get_or_from_slice_get parts.symbol_names number name [] (ap (λ l. slice_get l number) (sym declares.names) ∙ stands_at text.names name number e)

pub symbol_id_is : (text : Whole) (name : List ℕ) (number : ℕ) → number_of text.names name ≡ Some number → symbol_id text name ≡ record { 0 = number }
symbol_id_is text name number e = ap (λ o. record { 0 = unwrap_or o 0 }) e

pub sort_id_is : (sorts : List (List ℕ)) (name : List ℕ) (number : ℕ) → number_of sorts name ≡ Some number → sort_id sorts name ≡ record { 0 = number }
sort_id_is sorts name number e = ap (λ o. record { 0 = unwrap_or o (length sorts) }) e

-- Terms

pub record Stands (text : Whole) (parts : SigParts) (scope : Scope) (wanted : Option SortId) (term : RawTerm) : Type 0 where
  pub sort : SortId
  pub sorted : sort_of parts (stated_tree text term) ≡ Some sort
  pub wants : mismatch wanted sort ≡ None
  pub named : named_term parts (stated_tree text term) ≡ term
  pub below : vars_below parts (stated_tree text term) ≡ true
  pub valued : is_value scope.standing ≡ true → fold-Tree Bool (value_step parts) (stated_tree text term) ≡ true
  pub root : root_sort text term ≡ Some sort

abbrev pub MayStand : Whole → SigParts → Scope → RawTerm → Type 0
MayStand text parts scope term = (wanted : Option SortId) → term_fault text scope wanted term ≡ None → Stands text parts scope wanted term

-- arguments
pub record AllStand (text : Whole) (parts : SigParts) (scope : Scope) (sorts : List SortId) (terms : List RawTerm) : Type 0 where
  pub sorted : HaveSorts parts (map (stated_tree text) terms) sorts
  pub named : map (named_term parts) (map (stated_tree text) terms) ≡ terms
  pub below : list_all (λ v. v) (map (vars_below parts) (map (stated_tree text) terms)) ≡ true
  pub valued : is_value scope.standing ≡ true → list_all (λ v. v) (map (fold-Tree Bool (value_step parts)) (map (stated_tree text) terms)) ≡ true

all_stand : (text : Whole) (parts : SigParts) (scope : Scope) (sorts : List SortId) (terms : List RawTerm) → Each (MayStand text parts scope) terms
    → length terms ≡ length sorts → args_fault text scope sorts terms ≡ None → AllStand text parts scope sorts terms
all_stand text parts scope [] [] have count e = record { sorted = tt; named = refl; below = refl; valued = λ h. refl }
all_stand text parts scope [] (t ∷ ts) have count e = cc
all_stand text parts scope (w ∷ ws) [] have count e = cc
all_stand text parts scope (w ∷ ws) (t ∷ ts) have count e =
    let a = neither (term_fault text scope (Some w) t) _ e in
    let s = have.0 (Some w) a.0 in
    let same : w ≡ s.sort = wanted_is w s.sort s.wants in
    let less : length ts ≡ length ws = omega arith in
    let r = all_stand text parts scope ws ts have.1 less a.1 in
    record {
      sorted = (s.sorted ∙ ap Some (sym same), r.sorted);
      named = ap₂ ◌∷◌ s.named r.named;
      below = ap₂ ◌&&◌ s.below r.below;
      valued = λ h. ap₂ ◌&&◌ (s.valued h) (r.valued h);
    }

pub stated_raw : (text : Whole) (h : RawHead) (args : List RawTerm) → stated_tree text (raw_term h args) ≡ tree_over text h (map (stated_tree text) args)
stated_raw text h args = let l : RawTerm-F RawTerm = record { head = h; args = args } in fold-roll-RawTerm Tree (stated_step text) l

root_raw : (text : Whole) (h : RawHead) (args : List RawTerm) → root_sort text (raw_term h args) ≡ head_sort text h
root_raw text h args = let l : RawTerm-F RawTerm = record { head = h; args = args } in ap (λ (z : RawTerm-F RawTerm). head_sort text z.head) (out-roll-RawTerm l)

con_of : (s : Sym) → is_function (Some (headed s)) ≡ false → is_constructor (Some s) ≡ true
con_of (sym.Con con) e = refl
con_of (sym.Fun fun) e = absurd (true≢false e)

and_false : (a c : Bool) → (a && c) ≡ false → a ≡ true → c ≡ false
and_false a c e h = sym (ap (λ z. z && c) h) ∙ e

name_stands : (text : Whole) (parts : SigParts) (scope : Scope) → Declares text parts → (name : List ℕ) (args : List RawTerm) → Each (MayStand text parts scope) args
    → (wanted : Option SortId) → node_faults text scope (map is_field_term args) wanted (head.Name name) ≡ None
    → args_fault text scope (wanted_of (head_symbol text (head.Name name))) args ≡ None → Stands text parts scope wanted (raw_term (head.Name name) args)
name_stands text parts scope declares name args have wanted e k =
    let n = named_found text scope (map is_field_term args) wanted name e in
    let sorts : wanted_of (head_symbol text (head.Name name)) ≡ args_of n.symbol =
    ap (λ o. wanted_of (symbol_of text o)) n.numbered ∙ ap wanted_of n.declared in
    let all = all_stand text parts scope (args_of n.symbol) args have (sym (length-map args is_field_term) ∙ n.arity)
    (sym (ap (λ l. args_fault text scope l args) sorts) ∙ k) in
    let own = in_parts text parts declares n.number n.symbol n.declared in
    let f : SymId = record { 0 = n.number } in
    let trees = map (stated_tree text) args in
    let tree : stated_tree text (raw_term (head.Name name) args) ≡ App f trees =
    stated_raw text (head.Name name) args ∙ ap (λ z. App z trees) (symbol_id_is text name n.number n.numbered) in
    let result : result_of n.symbol ≡ result_of own.0 = ap result_of own.2 ∙ headed_result own.0 in
    let wants : args_of n.symbol ≡ args_of own.0 = ap args_of own.2 ∙ headed_args own.0 in
    record {
      sort = result_of own.0;
      sorted = ap (sort_of parts) tree ∙ app_sorted parts f trees (result_of own.0)
          (record { symbol = own.0; declared = own.1; result = refl; sorts = subst (HaveSorts parts trees) wants all.sorted });
      wants = sym (ap (mismatch wanted) result) ∙ n.fits;
      named = ap (named_term parts) tree ∙ fold-App RawTerm (name_step parts) f trees
          ∙ ap₂ (λ m l. raw_term (head.Name m) l) (symbol_named text parts declares name n.number n.numbered) all.named;
      below = ap (vars_below parts) tree ∙ fold-App Bool (vars_step parts) f trees ∙ all.below;
      valued = λ h. ap (fold-Tree Bool (value_step parts)) tree ∙ fold-App Bool (value_step parts) f trees
          ∙ ap₂ ◌&&◌ (ap is_constructor own.1
          ∙ con_of own.0 (sym (ap (λ z. is_function (Some z)) own.2) ∙ and_false (is_value scope.standing) (is_function (Some n.symbol)) n.no_value h)) (all.valued h);
      root = root_raw text (head.Name name) args ∙ ap (name_sort text) n.numbered ∙ ap sort_given n.declared ∙ ap Some result;
    }

in_vars : (xs : List ℕ) (i k : ℕ) → is_in_range i (slice_get xs k) ≡ true → nat_lt i (slice_index_or xs k 0) ≡ true
in_vars [] i k e = absurd (true≢false (sym e))
in_vars (x ∷ xs) i zero e = e
in_vars (x ∷ xs) i (suc k) e = in_vars xs i k e

no_both : (s : Standing) → is_side s ≡ true → is_value s ≡ true → {G : Type 0} → G
no_both standing.Value e h = absurd (true≢false (sym e))
no_both standing.Side e h = absurd (true≢false (sym h))
no_both standing.Body e h = absurd (true≢false (sym h))

var_stands : (text : Whole) (parts : SigParts) (scope : Scope) → Declares text parts → (sort : List ℕ) (index : ℕ) (args : List RawTerm)
    → (wanted : Option SortId) → node_faults text scope (map is_field_term args) wanted (head.Var sort index) ≡ None
    → Stands text parts scope wanted (raw_term (head.Var sort index) args)
var_stands text parts scope declares sort index (a ∷ args) wanted e =
    let v = varied_found text scope index (length (map is_field_term (a ∷ args))) wanted sort e in
    let no : length (map is_field_term (a ∷ args)) ≡ 0 = v.none in cc
var_stands text parts scope declares sort index [] wanted e =
    let v = varied_found text scope index 0 wanted sort e in
    let s : SortId = record { 0 = v.number } in
    let tree : stated_tree text (raw_term (head.Var sort index) []) ≡ Var s index =
    stated_raw text (head.Var sort index) [] ∙ ap (λ z. Var z index) (sort_id_is text.sorts sort v.number v.numbered) in
    let within : v.number < length parts.sort_names =
    subst (λ l. v.number < length l) declares.sorts (slice_get_within text.sorts v.number sort (stands_at text.sorts sort v.number v.numbered)) in
    let declared : IsTrue (is_declared_sort parts s) = search (rules, within) in
    record {
      sort = s;
      sorted = ap (sort_of parts) tree ∙ var_sorted parts s index declared;
      wants = v.fits;
      named = ap (named_term parts) tree ∙ fold-Var RawTerm (name_step parts) s index
          ∙ ap (λ m. raw_term (head.Var m index) []) (sort_named text parts declares sort v.number v.numbered);
      below = ap (vars_below parts) tree ∙ fold-Var Bool (vars_step parts) s index
          ∙ in_vars parts.settings.vars index v.number (sym (ap (λ l. is_in_range index (slice_get l v.number)) declares.vars) ∙ v.range);
      valued = λ h. no_both scope.standing v.side h;
      root = root_raw text (head.Var sort index) [] ∙ ap variable_sort v.numbered;
    }

no_atom : {G : Type 0} (count : ℕ) (wanted : Option SortId) (sorts : List SortId) (k : ℕ) → sorts ≡ [] → atom_faults count wanted (slice_get sorts k) ≡ None → G
no_atom count wanted sorts k none e =
    let a = atom_found count wanted (slice_get sorts k) e in none_is a.0 (sym (ap (λ l. slice_get l k) none) ∙ a.1)

-- outside of bodies there are no parameters and no fields
pub stands : (text : Whole) (parts : SigParts) (scope : Scope) → Declares text parts → scope.fields ≡ [] → scope.params ≡ []
    → (term : RawTerm) → MayStand text parts scope term
stands text parts scope declares no_fields no_params = raw_induct (MayStand text parts scope) step
  where
    step : (h : RawHead) (args : List RawTerm) → Each (MayStand text parts scope) args → MayStand text parts scope (raw_term h args)
    step h args have wanted e = by h (neither (node_faults text scope (map is_field_term args) wanted h) _ (sym (term_raw text scope wanted h args) ∙ e))
      where
        by : (h : RawHead) → (node_faults text scope (map is_field_term args) wanted h ≡ None) × (args_fault text scope (wanted_of (head_symbol text h)) args ≡ None)
            → Stands text parts scope wanted (raw_term h args)
        by (head.Name name) p = name_stands text parts scope declares name args have wanted p.0 p.1
        by (head.Var sort index) p = var_stands text parts scope declares sort index args wanted p.0
        by (head.Param number) p = no_atom (length (map is_field_term args)) wanted scope.params number no_params p.0
        by (head.Field number) p = no_atom (length (map is_field_term args)) wanted scope.fields number no_fields p.0
