-- What a written body without faults states: it is well-formed, and written so.
use Rattle.std.proofs.Common.{◌≡◌, ℕ, zero, suc, ◌≤◌, List, [], ◌∷◌, map, length, Bool, true, false, true≢false, not, ◌&&◌, ◌||◌, ◌==◌, nat_lt, eq-eqb, rules, arith, if◌then◌else◌, Option, Some, None, slice_get, refl, sym, ap, ap₂, ◌∙◌}
use Rattle.std.proofs.lemmas.List.{length-map}
use Rattle.law_sig.specs.Lists.{Each}
use Rattle.law_sig.specs.Signature.{args_of, result_of, symbol_at, same_sorts, sort_over}
use Rattle.law_sig.specs.WellFormed.{Part, part_step, part_is_field, falls, may_call, where_true, is_function, is_constructor, sort_of_body}
use Rattle.law_sig.specs.WellFormed as formed
use Rattle.law_sig.specs.declared.tree.SortId.{SortId}
use Rattle.law_sig.specs.declared.tree.SymId.{SymId}
use Rattle.law_sig.specs.declared.tree.Body.{Body}
use Rattle.law_sig.specs.declared.tree.Body.TheOpen as b
use Rattle.law_sig.specs.declared.tree.Body.TheVariants as body
use Rattle.law_sig.specs.declared.tree.Body.TheViews.{out-Body}
use Rattle.law_sig.specs.declared.tree.Body.TheFolds.{fold-Body, fold_out-Body, map-Body}
use Rattle.law_sig.specs.declared.parts.Sym.{Sym}
use Rattle.law_sig.specs.declared.parts.Sym.TheVariants as sym
use Rattle.law_sig.specs.declared.parts.SigParts.{SigParts}
use Rattle.law_laws.proofs.Sorts.{same_sort_itself}
use Rattle.law_lines.specs.declared.raw.RawHead.{RawHead}
use Rattle.law_lines.specs.declared.raw.RawHead.TheVariants as head
use Rattle.law_lines.specs.declared.raw.RawTerm.{RawTerm}
use Rattle.law_lines.specs.declared.raw.RawTerm.TheOpen.{RawTerm-F}
use Rattle.law_lines.specs.declared.raw.RawTerm.TheViews.{out-roll-RawTerm}
use Rattle.law_lines.specs.declared.raw.RawTerm.TheFolds.{fold-roll-RawTerm}
use Rattle.law_typing.specs.Names.{number_of}
use Rattle.law_typing.specs.Naming.{raw_term, named_body, name_body_step}
use Rattle.law_typing.specs.TermFaults.{mismatch, is_side, is_body, is_true_at, falls_at, node_faults, is_field, is_field_term, head_symbol, symbol_of, wanted_of, term_fault}
use Rattle.law_typing.specs.Stated.{symbol_body, body_over, body_step, stated_body}
use Rattle.law_typing.specs.declared.scope.Scope.{Scope}
use Rattle.law_typing.specs.declared.scope.Standing.{Standing}
use Rattle.law_typing.specs.declared.scope.Standing.TheVariants as standing
use Rattle.law_typing.specs.declared.whole.Whole.{Whole}
use Rattle.law_typing.proofs.TermFacts.{args_fault}
use Rattle.law_typing.proofs.TreeOfFacts.{raw_induct}
use Rattle.law_typing.proofs.SideFacts.{Declares, headed, in_parts, term_raw}
use Rattle.law_typing.proofs.TermSound.{neither, wanted_is, Named, named_found, varied_found, atom_found, symbol_named, symbol_id_is}

-- A fold over a body, layer by layer
pub body_fold : (A : Type 0) (step : b.Body-F A → A) (t : Body) (layer : b.Body-F Body) → out-Body t ≡ layer
    → fold-Body A step t ≡ step (map-Body Body A (fold-Body A step) layer)
body_fold A step t layer e = fold_out-Body A step t ∙ ap (λ l. step (map-Body Body A (fold-Body A step) l)) e

-- what a body may name, as a signature has it
abbrev pub formed_scope : Scope → formed.Scope
formed_scope scope = record { owner = record { 0 = scope.owner }; place = scope.place; fields = scope.fields; params = scope.params }

abbrev pub part_of : SigParts → Scope → Body → Part
part_of parts scope = fold-Body Part (part_step parts (formed_scope scope))

pub record BodyStands (text : Whole) (parts : SigParts) (scope : Scope) (wanted : Option SortId) (term : RawTerm) : Type 0 where
  pub sort : SortId
  pub part : part_of parts scope (stated_body text term) ≡ record { sort = Some sort; is_field = is_field_term term }
  pub wants : mismatch wanted sort ≡ None
  pub named : named_body parts (stated_body text term) ≡ term

abbrev pub MayStand : Whole → SigParts → Scope → RawTerm → Type 0
MayStand text parts scope term = (wanted : Option SortId) → term_fault text scope wanted term ≡ None → BodyStands text parts scope wanted term

record AllStand (text : Whole) (parts : SigParts) (scope : Scope) (sorts : List SortId) (terms : List RawTerm) : Type 0 where
  sorted : map (λ (p : Part). p.sort) (map (part_of parts scope) (map (stated_body text) terms)) ≡ map Some sorts
  fields : map (λ (p : Part). p.is_field) (map (part_of parts scope) (map (stated_body text) terms)) ≡ map is_field_term terms
  named : map (named_body parts) (map (stated_body text) terms) ≡ terms

all_stand : (text : Whole) (parts : SigParts) (scope : Scope) (sorts : List SortId) (terms : List RawTerm) → Each (MayStand text parts scope) terms
    → length terms ≡ length sorts → args_fault text scope sorts terms ≡ None → AllStand text parts scope sorts terms
all_stand text parts scope [] [] have count e = record { sorted = refl; fields = refl; named = refl }
all_stand text parts scope [] (t ∷ ts) have count e = cc
all_stand text parts scope (w ∷ ws) [] have count e = cc
all_stand text parts scope (w ∷ ws) (t ∷ ts) have count e =
    let a = neither (term_fault text scope (Some w) t) _ e in
    let s = have.0 (Some w) a.0 in
    let same : w ≡ s.sort = wanted_is w s.sort s.wants in
    let less : length ts ≡ length ws = omega arith in
    let r = all_stand text parts scope ws ts have.1 less a.1 in
    record {
      sorted = ap₂ ◌∷◌ (ap (λ (p : Part). p.sort) s.part ∙ ap Some (sym same)) r.sorted;
      fields = ap₂ ◌∷◌ (ap (λ (p : Part). p.is_field) s.part) r.fields;
      named = ap₂ ◌∷◌ s.named r.named;
    }

same_sorts_some : (ws : List SortId) → same_sorts (map Some ws) ws ≡ true
same_sorts_some [] = refl
same_sorts_some (w ∷ ws) = ap₂ ◌&&◌ (same_sort_itself w) (same_sorts_some ws)

pub over_is : (symbol : Sym) (sorts : List (Option SortId)) → sorts ≡ map Some (args_of symbol) → sort_over (Some symbol) sorts ≡ Some (result_of symbol)
over_is symbol sorts e = ap (λ c. if c then Some (result_of symbol) else None) (ap (λ l. same_sorts l (args_of symbol)) e ∙ same_sorts_some (args_of symbol))

-- the argument at the match place
field_at : (ps : List Part) (k : ℕ) → part_is_field (slice_get ps k) ≡ is_true_at (slice_get (map (λ (p : Part). p.is_field) ps) k)
field_at [] k = refl
field_at (p ∷ ps) zero = refl
field_at (p ∷ ps) (suc k) = field_at ps k

pub falls_same : (place : Option ℕ) (ps : List Part) → falls place ps ≡ falls_at place (map (λ (p : Part). p.is_field) ps)
falls_same None ps = refl
falls_same (Some k) ps = field_at ps k

-- a call that is neither of a later function nor one that doesn't fall
may : (number owner : ℕ) (falling : Bool) → nat_lt owner number ≡ false → ((number == owner) && not falling) ≡ false
    → (nat_lt number owner || ((number == owner) && falling)) ≡ true
may number owner falling later h = by (nat_lt number owner) refl
  where
    both : (c f : Bool) → (c && not f) ≡ false → c ≡ true → f ≡ true
    both true true e k = refl
    both true false e k = absurd (true≢false e)
    both false f e k = absurd (true≢false (sym k))

    by : (c : Bool) → nat_lt number owner ≡ c → (nat_lt number owner || ((number == owner) && falling)) ≡ true
    by true e = ap (λ z. z || ((number == owner) && falling)) e
    by false e =
        let low : number ≤ owner = search (rules, later) in
        let high : owner ≤ number = search (rules, e) in
        let same : number ≡ owner = omega arith in
        let is : (number == owner) ≡ true = eq-eqb number owner same in
        ap₂ (λ x y. x || (y && falling)) e is ∙ both (number == owner) falling h is

pub stated_raw : (text : Whole) (h : RawHead) (args : List RawTerm) → stated_body text (raw_term h args) ≡ body_over text h (map (stated_body text) args)
stated_raw text h args = let l : RawTerm-F RawTerm = record { head = h; args = args } in fold-roll-RawTerm Body (body_step text) l

field_raw : (h : RawHead) (args : List RawTerm) → is_field_term (raw_term h args) ≡ is_field h
field_raw h args = let l : RawTerm-F RawTerm = record { head = h; args = args } in ap (λ (z : RawTerm-F RawTerm). is_field z.head) (out-roll-RawTerm l)

part_is : (p : Part) (s : Option SortId) (f : Bool) → p.sort ≡ s → p.is_field ≡ f → p ≡ record { sort = s; is_field = f }
part_is p s f e k = ap₂ (λ x y. record { sort = x; is_field = y }) e k

and_true_false : (a c : Bool) → (a && c) ≡ false → a ≡ true → c ≡ false
and_true_false a c e h = sym (ap (λ z. z && c) h) ∙ e

name_stands : (text : Whole) (parts : SigParts) (scope : Scope) → Declares text parts → is_body scope.standing ≡ true
    → (name : List ℕ) (args : List RawTerm) → Each (MayStand text parts scope) args
    → (wanted : Option SortId) → node_faults text scope (map is_field_term args) wanted (head.Name name) ≡ None
    → args_fault text scope (wanted_of (head_symbol text (head.Name name))) args ≡ None → BodyStands text parts scope wanted (raw_term (head.Name name) args)
name_stands text parts scope declares stands_in name args have wanted e k =
    let n = named_found text scope (map is_field_term args) wanted name e in
    let sorts : wanted_of (head_symbol text (head.Name name)) ≡ args_of n.symbol =
    ap (λ o. wanted_of (symbol_of text o)) n.numbered ∙ ap wanted_of n.declared in
    let all = all_stand text parts scope (args_of n.symbol) args have (sym (length-map args is_field_term) ∙ n.arity)
    (sym (ap (λ l. args_fault text scope l args) sorts) ∙ k) in
    let own = in_parts text parts declares n.number n.symbol n.declared in
    by n all own.0 own.1 own.2 (ap (λ o. is_function (symbol_of text o)) n.numbered ∙ ap is_function n.declared)
  where
    by : (n : Named text scope (map is_field_term args) wanted name) → AllStand text parts scope (args_of n.symbol) args → (symbol : Sym)
        → symbol_at parts (record { 0 = n.number }) ≡ Some symbol → n.symbol ≡ headed symbol
        → is_function (symbol_of text (number_of text.names name)) ≡ is_function (Some n.symbol)
        → BodyStands text parts scope wanted (raw_term (head.Name name) args)
    by n all (sym.Con con) declared same calls =
        let f : SymId = record { 0 = n.number } in
        let tree : stated_body text (raw_term (head.Name name) args) ≡ body.Make f (map (stated_body text) args) =
        stated_raw text (head.Name name) args ∙ ap₂ (λ c z. symbol_body c z (map (stated_body text) args)) (calls ∙ ap (λ z. is_function (Some z)) same) (symbol_id_is text name n.number n.numbered) in
        let layer : out-Body (body.Make f (map (stated_body text) args)) ≡ b.Make f (map (stated_body text) args) = body.outs-Make f (map (stated_body text) args) in
        let wants : args_of n.symbol ≡ con.args = ap args_of same in
        let found : sort_over (symbol_at parts f) (map (λ (p : Part). p.sort) (map (part_of parts scope) (map (stated_body text) args))) ≡ Some con.sort =
        ap (λ o. sort_over o (map (λ (p : Part). p.sort) (map (part_of parts scope) (map (stated_body text) args)))) declared
        ∙ over_is (sym.Con con) (map (λ (p : Part). p.sort) (map (part_of parts scope) (map (stated_body text) args))) (all.sorted ∙ ap (map Some) wants) in
        let whole = ap (part_of parts scope) tree ∙ body_fold Part (part_step parts (formed_scope scope)) (body.Make f (map (stated_body text) args)) (b.Make f (map (stated_body text) args)) layer in
        record {
          sort = con.sort;
          part = part_is (part_of parts scope (stated_body text (raw_term (head.Name name) args))) (Some con.sort) (is_field_term (raw_term (head.Name name) args))
              (ap (λ (p : Part). p.sort) whole
              ∙ ap (λ c. where_true c (sort_over (symbol_at parts f) (map (λ (p : Part). p.sort) (map (part_of parts scope) (map (stated_body text) args))))) (ap is_constructor declared) ∙ found)
              (ap (λ (p : Part). p.is_field) whole ∙ sym (field_raw (head.Name name) args));
          wants = sym (ap (mismatch wanted) (ap result_of same)) ∙ n.fits;
          named = ap (named_body parts) tree ∙ body_fold RawTerm (name_body_step parts) (body.Make f (map (stated_body text) args)) (b.Make f (map (stated_body text) args)) layer
              ∙ ap₂ (λ m l. raw_term (head.Name m) l) (symbol_named text parts declares name n.number n.numbered) all.named;
        }
    by n all (sym.Fun fun) declared same calls =
        let f : SymId = record { 0 = n.number } in
        let tree : stated_body text (raw_term (head.Name name) args) ≡ body.Call f (map (stated_body text) args) =
        stated_raw text (head.Name name) args ∙ ap₂ (λ c z. symbol_body c z (map (stated_body text) args)) (calls ∙ ap (λ z. is_function (Some z)) same) (symbol_id_is text name n.number n.numbered) in
        let layer : out-Body (body.Call f (map (stated_body text) args)) ≡ b.Call f (map (stated_body text) args) = body.outs-Call f (map (stated_body text) args) in
        let wants : args_of n.symbol ≡ fun.args = ap args_of same in
        let ps : List Part = map (part_of parts scope) (map (stated_body text) args) in
        let found : sort_over (symbol_at parts f) (map (λ (p : Part). p.sort) ps) ≡ Some fun.result =
        ap (λ o. sort_over o (map (λ (p : Part). p.sort) ps)) declared
        ∙ over_is (sym.Fun fun) (map (λ (p : Part). p.sort) ps) (all.sorted ∙ ap (map Some) wants) in
        let is_fun : is_function (Some n.symbol) ≡ true = ap (λ z. is_function (Some z)) same in
        let later : nat_lt scope.owner n.number ≡ false =
        and_true_false (is_body scope.standing && is_function (Some n.symbol)) (nat_lt scope.owner n.number) n.no_later (ap₂ ◌&&◌ stands_in is_fun) in
        let falling : falls scope.place ps ≡ falls_at scope.place (map is_field_term args) = falls_same scope.place ps ∙ ap (falls_at scope.place) all.fields in
        let called : may_call (formed_scope scope) f ps ≡ true =
        may n.number scope.owner (falls scope.place ps) later
        (ap (λ c. (n.number == scope.owner) && not c) falling
        ∙ sym (ap (λ z. z && (n.number == scope.owner) && not (falls_at scope.place (map is_field_term args))) stands_in) ∙ n.falls) in
        let whole = ap (part_of parts scope) tree ∙ body_fold Part (part_step parts (formed_scope scope)) (body.Call f (map (stated_body text) args)) (b.Call f (map (stated_body text) args)) layer in
        record {
          sort = fun.result;
          part = part_is (part_of parts scope (stated_body text (raw_term (head.Name name) args))) (Some fun.result) (is_field_term (raw_term (head.Name name) args))
              (ap (λ (p : Part). p.sort) whole
              ∙ ap (λ c. where_true c (sort_over (symbol_at parts f) (map (λ (p : Part). p.sort) ps))) (ap₂ ◌&&◌ (ap is_function declared) called) ∙ found)
              (ap (λ (p : Part). p.is_field) whole ∙ sym (field_raw (head.Name name) args));
          wants = sym (ap (mismatch wanted) (ap result_of same)) ∙ n.fits;
          named = ap (named_body parts) tree ∙ body_fold RawTerm (name_body_step parts) (body.Call f (map (stated_body text) args)) (b.Call f (map (stated_body text) args)) layer
              ∙ ap₂ (λ m l. raw_term (head.Name m) l) (symbol_named text parts declares name n.number n.numbered) all.named;
        }

param_stands : (text : Whole) (parts : SigParts) (scope : Scope) (number : ℕ) (args : List RawTerm) (wanted : Option SortId)
    → node_faults text scope (map is_field_term args) wanted (head.Param number) ≡ None → BodyStands text parts scope wanted (raw_term (head.Param number) args)
param_stands text parts scope number (a ∷ args) wanted e =
    let v = atom_found (length (map is_field_term (a ∷ args))) wanted (slice_get scope.params number) e in
    let no : length (map is_field_term (a ∷ args)) ≡ 0 = v.2 in cc
param_stands text parts scope number [] wanted e =
    let v = atom_found 0 wanted (slice_get scope.params number) e in
    let tree = stated_raw text (head.Param number) [] in
    let whole = ap (part_of parts scope) tree ∙ body_fold Part (part_step parts (formed_scope scope)) (body.Param number) (b.Param number) (body.outs-Param number) in
    record {
      sort = v.0;
      part = part_is (part_of parts scope (stated_body text (raw_term (head.Param number) []))) (Some v.0) (is_field_term (raw_term (head.Param number) []))
          (ap (λ (p : Part). p.sort) whole ∙ v.1) (ap (λ (p : Part). p.is_field) whole ∙ sym (field_raw (head.Param number) []));
      wants = v.3;
      named = ap (named_body parts) tree ∙ body_fold RawTerm (name_body_step parts) (body.Param number) (b.Param number) (body.outs-Param number);
    }

field_stands : (text : Whole) (parts : SigParts) (scope : Scope) (number : ℕ) (args : List RawTerm) (wanted : Option SortId)
    → node_faults text scope (map is_field_term args) wanted (head.Field number) ≡ None → BodyStands text parts scope wanted (raw_term (head.Field number) args)
field_stands text parts scope number (a ∷ args) wanted e =
    let v = atom_found (length (map is_field_term (a ∷ args))) wanted (slice_get scope.fields number) e in
    let no : length (map is_field_term (a ∷ args)) ≡ 0 = v.2 in cc
field_stands text parts scope number [] wanted e =
    let v = atom_found 0 wanted (slice_get scope.fields number) e in
    let tree = stated_raw text (head.Field number) [] in
    let whole = ap (part_of parts scope) tree ∙ body_fold Part (part_step parts (formed_scope scope)) (body.Field number) (b.Field number) (body.outs-Field number) in
    record {
      sort = v.0;
      part = part_is (part_of parts scope (stated_body text (raw_term (head.Field number) []))) (Some v.0) (is_field_term (raw_term (head.Field number) []))
          (ap (λ (p : Part). p.sort) whole ∙ v.1) (ap (λ (p : Part). p.is_field) whole ∙ sym (field_raw (head.Field number) []));
      wants = v.3;
      named = ap (named_body parts) tree ∙ body_fold RawTerm (name_body_step parts) (body.Field number) (b.Field number) (body.outs-Field number);
    }

no_side : (s : Standing) → is_side s ≡ true → is_body s ≡ true → {G : Type 0} → G
no_side standing.Value e h = absurd (true≢false (sym e))
no_side standing.Side e h = absurd (true≢false (sym h))
no_side standing.Body e h = absurd (true≢false (sym e))

pub body_stands : (text : Whole) (parts : SigParts) (scope : Scope) → Declares text parts → is_body scope.standing ≡ true → (term : RawTerm) → MayStand text parts scope term
body_stands text parts scope declares stands_in = raw_induct (MayStand text parts scope) step
  where
    step : (h : RawHead) (args : List RawTerm) → Each (MayStand text parts scope) args → MayStand text parts scope (raw_term h args)
    step h args have wanted e = by h (neither (node_faults text scope (map is_field_term args) wanted h) _ (sym (term_raw text scope wanted h args) ∙ e))
      where
        by : (h : RawHead) → (node_faults text scope (map is_field_term args) wanted h ≡ None) × (args_fault text scope (wanted_of (head_symbol text h)) args ≡ None)
            → BodyStands text parts scope wanted (raw_term h args)
        by (head.Name name) p = name_stands text parts scope declares stands_in name args have wanted p.0 p.1
        by (head.Var sort index) p = no_side scope.standing (varied_found text scope index (length (map is_field_term args)) wanted sort p.0).side stands_in
        by (head.Param number) p = param_stands text parts scope number args wanted p.0
        by (head.Field number) p = field_stands text parts scope number args wanted p.0
