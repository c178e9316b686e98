-- What a signature's lines state is the signature again: trees, bodies and cases are read back from their names.
use Rattle.std.proofs.Common.{◌≡◌, ◌≢◌, ℕ, zero, suc, ◌+◌, ◌<◌, List, [], ◌∷◌, map, length, Bool, true, false, true≢false, ◌&&◌, is_some, Option, Some, None, slice_get, arith, refl, sym, ap, ap₂, ◌∙◌, subst}
use Rattle.std.proofs.lemmas.Option.{slice_get_within, slice_get-get_or}
use Rattle.law_sig.specs.Lists.{In, Each, AreDistinct}
use Rattle.law_sig.specs.Lists.In.{here, there}
use Rattle.law_sig.specs.Signature.{symbol_at, args_of, sort_of, sort_over, constructors}
use Rattle.law_sig.specs.WellFormed.{Scope, Part, part_step, is_function, is_constructor, may_call, IsBody, IsCase, AreCases, IsWellFormed}
use Rattle.law_sig.specs.declared.tree.SortId.{SortId}
use Rattle.law_sig.specs.declared.tree.SymId.{SymId}
use Rattle.law_sig.specs.declared.tree.Tree.{Tree}
use Rattle.law_sig.specs.declared.tree.Tree.TheVariants.{Var, App}
use Rattle.law_sig.specs.declared.tree.Body.{Body}
use Rattle.law_sig.specs.declared.tree.Body.TheOpen as b
use Rattle.law_sig.specs.declared.tree.Body.TheVariants as body
use Rattle.law_sig.specs.declared.tree.Body.TheViews.{out-Body, roll-Body, roll-out-Body}
use Rattle.law_sig.specs.declared.tree.Body.TheFolds.{fold-Body}
use Rattle.law_sig.specs.declared.parts.Sym.{Sym}
use Rattle.law_sig.specs.declared.parts.Sym.TheVariants as sym
use Rattle.law_sig.specs.declared.parts.SigParts.{SigParts}
use Rattle.law_laws.proofs.TreeFacts.{tree_induct, fold-Var, fold-App}
use Rattle.law_laws.proofs.BodyFacts.{body_induct, some_is, none_is}
use Rattle.law_laws.proofs.ListFacts.{of_each}
use Rattle.law_laws.proofs.Sorts.{HaveSorts, sorted_app, sorted_var, both_true}
use Rattle.law_lines.specs.declared.raw.RawHead.TheVariants as head
use Rattle.law_lines.specs.declared.raw.RawTerm.{RawTerm}
use Rattle.law_lines.specs.declared.raw.RawLine.{RawLine}
use Rattle.law_typing.specs.Names.{number_of}
use Rattle.law_typing.specs.Naming.{sort_name, symbol_name, raw_term, named_term, name_step, named_body, name_body_step}
use Rattle.law_typing.specs.TermFaults.{symbol_of}
use Rattle.law_typing.specs.LineFaults.{case_names, is_case, has_case}
use Rattle.law_typing.specs.Stated.{symbol_id, stated_tree, symbol_body, stated_body, stated_case}
use Rattle.law_typing.specs.declared.whole.Whole.{Whole}
use Rattle.law_typing.proofs.NumberFacts.{each_at}
use Rattle.law_typing.proofs.TreeOfFacts.{number_again}
use Rattle.law_typing.proofs.SideFacts.{Declares, headed, in_text}
use Rattle.law_typing.proofs.TermSound.{symbol_id_is}
use Rattle.law_typing.proofs.TermSound as tree
use Rattle.law_typing.proofs.BodySound.{body_fold}
use Rattle.law_typing.proofs.BodySound as bodies
use Rattle.law_faultless.proofs.BodyComplete.{HaveParts, Over, over_found, where_found}
use Rattle.law_typing.proofs.Laid.{CaseRow, cases_then}
use Rattle.law_typing.proofs.Counted.{in_numbered, cons_of, cons_distinct}
use Rattle.law_typing.proofs.RulesSound.{names_are, case_found}
use Rattle.law_faultless.proofs.LaidBack.{CaseOf, CasesOf}
use Rattle.law_faultless.proofs.DeclaresBack.{sort_again}

-- Bodies with the same layer are the same
same_out : (s t : Body) → out-Body s ≡ out-Body t → s ≡ t
same_out s t e = sym (roll-out-Body s) ∙ ap roll-Body e ∙ roll-out-Body t

-- an item of a list without repetition has one place
one_place : {A : Type 0} (xs : List A) (i j : ℕ) (x : A) → AreDistinct xs → slice_get xs i ≡ Some x → slice_get xs j ≡ Some x → i ≡ j
one_place [] i j x d e k = none_is x e
one_place (y ∷ xs) zero zero x d e k = refl
one_place (y ∷ xs) zero (suc j) x d e k = absurd (each_at (λ z. y ≢ z) xs j x d.0 k (some_is y x e))
one_place (y ∷ xs) (suc i) zero x d e k = absurd (each_at (λ z. y ≢ z) xs i x d.0 e (some_is y x k))
one_place (y ∷ xs) (suc i) (suc j) x d e k = ap suc (one_place xs i j x d.1 e k)

abbrev part_in : SigParts → Scope → Body → Part
part_in parts scope = fold-Body Part (part_step parts scope)

con_no_fun : (s : Sym) → is_constructor (Some s) ≡ true → is_function (Some (headed s)) ≡ false
con_no_fun (sym.Con con) e = refl
con_no_fun (sym.Fun fun) e = absurd (true≢false (sym e))

fun_is_fun : (s : Sym) → is_function (Some s) ≡ true → is_function (Some (headed s)) ≡ true
fun_is_fun (sym.Con con) e = absurd (true≢false (sym e))
fun_is_fun (sym.Fun fun) e = refl

module _ (text : Whole) (parts : SigParts) (formed : IsWellFormed parts) (declares : Declares text parts) where
  number_back : (f : SymId) → f.0 < length parts.symbols → number_of text.names (symbol_name parts f) ≡ Some f.0
  number_back f l =
      let within : f.0 < length parts.symbol_names = subst (λ n. f.0 < n) (sym formed.one_name_each) l in
      ap (λ names. number_of names (symbol_name parts f)) declares.names ∙ number_again parts.symbol_names f.0 formed.symbol_names.distinct within

  pub symbol_back : (f : SymId) → f.0 < length parts.symbols → symbol_id text (symbol_name parts f) ≡ f
  symbol_back f l = symbol_id_is text (symbol_name parts f) f.0 (number_back f l)

  pub symbols_back : (fs : List SymId) → Each (λ (f : SymId). f.0 < length parts.symbols) fs → map (symbol_id text) (map (symbol_name parts) fs) ≡ fs
  symbols_back [] h = refl
  symbols_back (f ∷ fs) h = ap₂ ◌∷◌ (symbol_back f h.0) (symbols_back fs h.1)

  -- Trees

  abbrev TreeBack : Tree → Type 0
  TreeBack t = (sort : SortId) → sort_of parts t ≡ Some sort → stated_tree text (named_term parts t) ≡ t

  trees_back : (ts : List Tree) (ws : List SortId) → Each TreeBack ts → HaveSorts parts ts ws → map (stated_tree text) (map (named_term parts) ts) ≡ ts
  trees_back [] [] have h = refl
  trees_back [] (w ∷ ws) have h = absurd h
  trees_back (t ∷ ts) [] have h = absurd h
  trees_back (t ∷ ts) (w ∷ ws) have h = ap₂ ◌∷◌ (have.0 w h.0) (trees_back ts ws have.1 h.1)

  pub tree_back : (t : Tree) (sort : SortId) → sort_of parts t ≡ Some sort → stated_tree text (named_term parts t) ≡ t
  tree_back = tree_induct TreeBack at_var at_app
    where
      at_var : (s : SortId) (i : ℕ) (sort : SortId) → sort_of parts (Var s i) ≡ Some sort → stated_tree text (named_term parts (Var s i)) ≡ Var s i
      at_var s i sort e =
          let v = sorted_var parts s i sort e in
          ap (stated_tree text) (fold-Var RawTerm (name_step parts) s i) ∙ tree.stated_raw text (head.Var (sort_name parts s) i) []
          ∙ ap (λ z. Var z i) (sort_again text parts formed declares.sorts s v.0)

      at_app : (f : SymId) (args : List Tree) → Each (λ t. (sort : SortId) → sort_of parts t ≡ Some sort → stated_tree text (named_term parts t) ≡ t) args
          → (sort : SortId) → sort_of parts (App f args) ≡ Some sort → stated_tree text (named_term parts (App f args)) ≡ App f args
      at_app f args have sort e =
          let a = sorted_app parts f args sort e in
          ap (stated_tree text) (fold-App RawTerm (name_step parts) f args) ∙ tree.stated_raw text (head.Name (symbol_name parts f)) (map (named_term parts) args)
          ∙ ap₂ App (symbol_back f (slice_get_within parts.symbols f.0 a.symbol a.declared)) (trees_back args (args_of a.symbol) have a.sorts)

  -- Bodies

  abbrev BodyBack : Scope → Body → Type 0
  BodyBack scope t = (sort : SortId) → (part_in parts scope t).sort ≡ Some sort → stated_body text (named_body parts t) ≡ t

  args_back : (scope : Scope) (ts : List Body) (ws : List SortId) → Each (BodyBack scope) ts → HaveParts (map (part_in parts scope) ts) ws
      → map (stated_body text) (map (named_body parts) ts) ≡ ts
  args_back scope [] [] have h = refl
  args_back scope [] (w ∷ ws) have h = absurd h
  args_back scope (t ∷ ts) [] have h = absurd h
  args_back scope (t ∷ ts) (w ∷ ws) have h = ap₂ ◌∷◌ (have.0 w h.0) (args_back scope ts ws have.1 h.1)

  symbol_over_back : (scope : Scope) (f : SymId) (args : List Body) (sort : SortId) (c : Bool) (t : Body) → Each (BodyBack scope) args
      → Over (symbol_at parts f) (map (part_in parts scope) args) sort → ((s : Sym) → symbol_at parts f ≡ Some s → is_function (Some (headed s)) ≡ c)
      → symbol_body c f args ≡ t → stated_body text (raw_term (head.Name (symbol_name parts f)) (map (named_body parts) args)) ≡ t
  symbol_over_back scope f args sort c t have o kind is =
      let within : f.0 < length parts.symbols = slice_get_within parts.symbols f.0 o.symbol o.declared in
      let calls : is_function (symbol_of text (number_of text.names (symbol_name parts f))) ≡ c =
      ap (λ n. is_function (symbol_of text n)) (number_back f within) ∙ ap is_function (in_text text parts declares f.0 o.symbol o.declared) ∙ kind o.symbol o.declared in
      bodies.stated_raw text (head.Name (symbol_name parts f)) (map (named_body parts) args)
      ∙ ap₂ (λ z g. symbol_body z g (map (stated_body text) (map (named_body parts) args))) calls (symbol_back f within)
      ∙ ap (symbol_body c f) (args_back scope args (args_of o.symbol) have o.args) ∙ is

  pub body_back : (scope : Scope) (t : Body) → BodyBack scope t
  body_back scope = body_induct (BodyBack scope)
      (λ t n e sort is. ap (stated_body text) (body_fold RawTerm (name_body_step parts) t (b.Field n) e) ∙ bodies.stated_raw text (head.Field n) []
      ∙ same_out (body.Field n) t (body.outs-Field n ∙ sym e))
      (λ t n e sort is. ap (stated_body text) (body_fold RawTerm (name_body_step parts) t (b.Param n) e) ∙ bodies.stated_raw text (head.Param n) []
      ∙ same_out (body.Param n) t (body.outs-Param n ∙ sym e))
      (λ t f args e have sort is.
      let ps = map (part_in parts scope) args in
      let w = where_found (is_constructor (symbol_at parts f)) (sort_over (symbol_at parts f) (map (λ (p : Part). p.sort) ps)) sort
      (sym (ap (λ (p : Part). p.sort) (body_fold Part (part_step parts scope) t (b.Make f args) e)) ∙ is) in
      ap (stated_body text) (body_fold RawTerm (name_body_step parts) t (b.Make f args) e)
      ∙ symbol_over_back scope f args sort false t have (over_found (symbol_at parts f) ps sort w.1)
      (λ s d. con_no_fun s (sym (ap is_constructor d) ∙ w.0)) (same_out (body.Make f args) t (body.outs-Make f args ∙ sym e)))
      (λ t f args e have sort is.
      let ps = map (part_in parts scope) args in
      let w = where_found (is_function (symbol_at parts f) && may_call scope f ps) (sort_over (symbol_at parts f) (map (λ (p : Part). p.sort) ps)) sort
      (sym (ap (λ (p : Part). p.sort) (body_fold Part (part_step parts scope) t (b.Call f args) e)) ∙ is) in
      let c = both_true (is_function (symbol_at parts f)) (may_call scope f ps) w.0 in
      ap (stated_body text) (body_fold RawTerm (name_body_step parts) t (b.Call f args) e)
      ∙ symbol_over_back scope f args sort true t have (over_found (symbol_at parts f) ps sort w.1)
      (λ s d. fun_is_fun s (sym (ap is_function d) ∙ c.0)) (same_out (body.Call f args) t (body.outs-Call f args ∙ sym e)))

  -- Cases

  case_declared : (sort : SortId) (c : SymId) → In c (constructors parts sort) → c.0 < length parts.symbols
  case_declared sort c at =
      let i = cons_of 0 parts.symbols sort c at in
      let plain : 0 + i.place ≡ i.place = omega arith in
      subst (λ (z : SymId). z.0 < length parts.symbols) (sym i.is) (subst (λ n. n < length parts.symbols) (sym plain) (slice_get_within parts.symbols i.place (sym.Con i.con) i.at))

  name_stands : (f : SymId) → f.0 < length parts.symbols → slice_get text.names f.0 ≡ Some (symbol_name parts f)
  name_stands f l =
      let within : f.0 < length parts.symbol_names = subst (λ n. f.0 < n) (sym formed.one_name_each) l in
      ap (λ names. slice_get names f.0) declares.names ∙ slice_get-get_or parts.symbol_names f.0 [] within

  case_sorted : (P : List SortId → Body → Type 0) (o : Option Sym) (t : Body) → IsCase P o t → (fields : List SortId) × P fields t
  case_sorted P None t h = absurd h
  case_sorted P (Some s) t h = (args_of s, h)

  in_at : {A : Type 0} (xs : List A) (i : ℕ) (x : A) → slice_get xs i ≡ Some x → In x xs
  in_at [] i x e = none_is x e
  in_at (y ∷ xs) zero x e = subst (λ z. In z (y ∷ xs)) (some_is y x e) here
  in_at (y ∷ xs) (suc i) x e = there (in_at xs i x e)

  -- a list by its items
  mapped_is : {A B : Type 0} (g : A → B) (xs : List A) (ys : List B) → length ys ≡ length xs
      → ((i : ℕ) (x : A) (y : B) → slice_get xs i ≡ Some x → slice_get ys i ≡ Some y → g x ≡ y) → map g xs ≡ ys
  mapped_is g [] [] e h = refl
  mapped_is g [] (y ∷ ys) e h = cc
  mapped_is g (x ∷ xs) [] e h = cc
  mapped_is g (x ∷ xs) (y ∷ ys) e h = let less : length ys ≡ length xs = omega arith in ap₂ ◌∷◌ (h 0 x y refl refl) (mapped_is g xs ys less (λ i. h (suc i)))

  case_at : (P : List SortId → Body → Type 0) (cons : List SymId) (ts : List Body) → AreCases parts P cons ts → (i : ℕ) (con : SymId) (t : Body)
      → slice_get cons i ≡ Some con → slice_get ts i ≡ Some t → IsCase P (symbol_at parts con) t
  case_at P [] ts h i con t e g = none_is con e
  case_at P (c ∷ cons) [] h i con t e g = absurd h
  case_at P (c ∷ cons) (u ∷ ts) h zero con t e g = subst (λ z. IsCase P (symbol_at parts z) t) (some_is c con e) (subst (IsCase P (symbol_at parts c)) (some_is u t g) h.0)
  case_at P (c ∷ cons) (u ∷ ts) h (suc i) con t e g = case_at P cons ts h.1 i con t e g

  cases_count : (P : List SortId → Body → Type 0) (cs : List SymId) (ts : List Body) → AreCases parts P cs ts → length ts ≡ length cs
  cases_count P [] [] h = refl
  cases_count P [] (t ∷ ts) h = absurd h
  cases_count P (c ∷ cs) [] h = absurd h
  cases_count P (c ∷ cs) (t ∷ ts) h = ap suc (cases_count P cs ts h.1)

  abbrev CaseBody : SymId → ℕ → List SortId → SortId → List SortId → Body → Type 0
  CaseBody k place params result fields t = IsBody parts (record { owner = k; place = Some place; fields = fields; params = params }) result t

  pub cases_read : (k : SymId) (place : ℕ) (params : List SortId) (result sort : SortId) (ts : List Body) (cs : List CaseRow) (rest : List RawLine)
      → AreCases parts (λ fields t. IsBody parts (record { owner = k; place = Some place; fields = fields; params = params }) result t) (constructors parts sort) ts
      → CasesOf parts (constructors parts sort) ts cs → case_names rest ≡ []
      → map (stated_case text (cases_then cs rest)) (constructors parts sort) ≡ ts
  cases_read k place params result sort ts cs rest are of none =
      mapped_is (stated_case text (cases_then cs rest)) (constructors parts sort) ts (cases_count (CaseBody k place params result) (constructors parts sort) ts are) each
    where
      has : (c : SymId) → In c (constructors parts sort) → has_case text (case_names (cases_then cs rest)) c ≡ true
      has c at = ap (is_case (case_names (cases_then cs rest))) (name_stands c (case_declared sort c at))
          ∙ ap (λ l. is_some (number_of l (symbol_name parts c))) (names_are cs rest none) ∙ in_numbered 0 (of.all c at)

      each : (i : ℕ) (c : SymId) (t : Body) → slice_get (constructors parts sort) i ≡ Some c → slice_get ts i ≡ Some t → stated_case text (cases_then cs rest) c ≡ t
      each i c t e g =
          let at = in_at (constructors parts sort) i c e in
          let f = case_found text cs rest c none (has c at) in
          let o = of_each (CaseOf parts (constructors parts sort) ts) f.is_in of.each in
          let other = in_at (constructors parts sort) o.place o.con o.con_at in
          let same_name : symbol_name parts c ≡ symbol_name parts o.con = some_is _ _ (sym (name_stands c (case_declared sort c at)) ∙ f.named) ∙ o.con_is in
          let same : c ≡ o.con = sym (symbol_back c (case_declared sort c at)) ∙ ap (symbol_id text) same_name ∙ symbol_back o.con (case_declared sort o.con other) in
          let same_place : i ≡ o.place = one_place (constructors parts sort) i o.place c (cons_distinct 0 parts.symbols sort) e (o.con_at ∙ ap Some (sym same)) in
          let it : o.body ≡ t = some_is o.body t (sym o.body_at ∙ ap (slice_get ts) (sym same_place) ∙ g) in
          let s = case_sorted (CaseBody k place params result) (symbol_at parts c) t (case_at (CaseBody k place params result) (constructors parts sort) ts are i c t e g) in
          f.case ∙ ap (stated_body text) (o.body_is ∙ ap (named_body parts) it)
          ∙ body_back (record { owner = k; place = Some place; fields = s.0; params = params }) t result s.1.sorted
