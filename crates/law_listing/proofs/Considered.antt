-- The list of the considered schemas of a weight has exactly them, rising in the order K.
use Rattle.std.proofs.Common.{◌≡◌, ℕ, ◌-◌, ◌<◌, ◌≤◌, ◌⊎◌, inl, inr, ◌==◌, Bool, true, false, ◌&&◌, if◌then◌else◌, nat_lt, nat_le, Option, Some, None, IsTrue, List, [], ◌∷◌, length, arith, rules, refl, sym, ap, ◌∙◌, subst}
use Rattle.std.proofs.Math.Path.{subst₂}
use Rattle.std.proofs.lemmas.Bool.{eqb-true, eq-eqb, ltb-true, lt-ltb}
use Rattle.std.proofs.lemmas.Option.{slice_get_within}
use Rattle.law_sig.specs.Lists.{In, Each, Rising}
use Rattle.law_sig.specs.Lists.In.{here, there}
use Rattle.law_sig.specs.Signature.{symbol_at, args_of, is_declared_sort, vars_at, weight_at}
use Rattle.law_sig.specs.Tests.{weight, is_explored}
use Rattle.law_sig.specs.WellFormed.{IsWellFormed}
use Rattle.law_sig.specs.declared.tree.SortId.{SortId}
use Rattle.law_sig.specs.declared.tree.SymId.{SymId}
use Rattle.law_sig.specs.declared.tree.Tree.{Tree}
use Rattle.law_sig.specs.declared.tree.Tree.TheVariants.{Var, App}
use Rattle.law_sig.specs.declared.parts.Sym.{Sym}
use Rattle.law_sig.specs.declared.parts.SigParts.{SigParts}
use Rattle.law_laws.proofs.ListFacts.{in_none, in_left, in_right, in_split, in_map}
use Rattle.law_laws.proofs.TreeFacts.{weight-Var, weight-App}
use Rattle.law_laws.proofs.Sorts.{sorted_app}
use Rattle.law_listing.specs.Rows.{each_below, rows_of, Lex}
use Rattle.law_listing.specs.Listing.{first_variable, first_variables, over_each, applications_of, applications, considered}
use Rattle.law_listing.specs.Columns.{IsBelow, IsOver, AreColumns}
use Rattle.law_listing.specs.Columns.IsOver.{variable, application}
use Rattle.law_listing.proofs.Rising.{map_in, rising_append, rising_map}
use Rattle.law_listing.proofs.RowFacts.{in_each_below, each_below_in, each_below_rising, in_rows, rows_in, rows_rising}
use Rattle.law_listing.proofs.Staging.{sorts_below, variable_below, symbols_below, apps_below}
use Rattle.law_listing.proofs.Applications.{IsApplied, usable, applied_over, items_across, applied, chosen}

-- Kept by a test

pub in_kept : (b : Bool) (x : Tree) (rest : List Tree) {t : Tree} → In t (if b then x ∷ rest else rest) → ((t ≡ x) × (b ≡ true)) ⊎ In t rest
in_kept true x rest here = inl (refl, refl)
in_kept true x rest (there p) = inr p
in_kept false x rest p = inr p

pub kept_first : (b : Bool) (x : Tree) (rest : List Tree) → b ≡ true → In x (if b then x ∷ rest else rest)
kept_first true x rest e = here
kept_first false x rest e = cc

pub kept_rising : (R : Tree → Tree → Type 0) (b : Bool) (x : Tree) (rest : List Tree) → Each (R x) rest → Rising R rest → Rising R (if b then x ∷ rest else rest)
kept_rising R true x rest h k = (h, k)
kept_rising R false x rest h k = k

-- The first variables

module _ (parts : SigParts) where
  in_first_variable : (sort : SortId) (t : Tree) → In t (first_variable parts sort) → (nat_lt 0 (vars_at parts sort) ≡ true) × (t ≡ Var sort 0)
  in_first_variable sort t at = elim (in_kept (nat_lt 0 (vars_at parts sort)) (Var sort 0) [] at) [ inl h ↦ (h.1, h.0) | inr h ↦ elim h [ ] ]

  -- a variable that is considered
  record IsFirst (t : Tree) : Type 0 where
    number : ℕ
    declared : number < length parts.sort_names
    some : nat_lt 0 (vars_at parts (record { 0 = number })) ≡ true
    is : t ≡ Var (record { 0 = number }) 0

  in_first_variables : (t : Tree) → In t (first_variables parts) → IsFirst t
  in_first_variables t at =
      let (i, less, p) = in_each_below (length parts.sort_names) (λ i. first_variable parts (record { 0 = i })) at in
      let (some, is) = in_first_variable (record { 0 = i }) t p in
      record { number = i; declared = less; some = some; is = is }

  first_variables_in : (sort : SortId) → IsTrue (is_declared_sort parts sort) → 1 ≤ vars_at parts sort → In (Var sort 0) (first_variables parts)
  first_variables_in sort declared some =
      each_below_in (length parts.sort_names) (λ i. first_variable parts (record { 0 = i })) sort.0 (ltb-true sort.0 (length parts.sort_names) declared)
      (kept_first (nat_lt 0 (vars_at parts sort)) (Var sort 0) [] (lt-ltb 0 (vars_at parts sort) (omega arith)))

  variables_rising : Rising (IsBelow parts) (first_variables parts)
  variables_rising = each_below_rising (IsBelow parts) (length parts.sort_names) (λ i. first_variable parts (record { 0 = i }))
      (λ k less. let s : SortId = record { 0 = k } in kept_rising (IsBelow parts) (nat_lt 0 (vars_at parts s)) (Var s 0) [] tt tt)
      (λ j k less within s t p q.
      let (some, is) = in_first_variable (record { 0 = j }) s p in
      let (more, is_too) = in_first_variable (record { 0 = k }) t q in
      subst₂ (IsBelow parts) (sym is) (sym is_too) (sorts_below parts (record { 0 = j }) (record { 0 = k }) 0 0 less))

  in_variables_if : (b : Bool) (t : Tree) → In t (if b then first_variables parts else []) → (b ≡ true) × IsFirst t
  in_variables_if true t at = (refl, in_first_variables t at)
  in_variables_if false t at = elim at [ ]

  variables_if_in : (b : Bool) (t : Tree) → b ≡ true → In t (first_variables parts) → In t (if b then first_variables parts else [])
  variables_if_in true t e at = at
  variables_if_in false t e at = cc

  variables_if_rising : (b : Bool) → Rising (IsBelow parts) (if b then first_variables parts else [])
  variables_if_rising true = variables_rising
  variables_if_rising false = tt

-- All of a weight

module _ (parts : SigParts) (Spread : Tree → Type 0) (bound : ℕ) (items : ℕ → SortId → List Tree) (well : IsWellFormed parts) (are : AreColumns parts Spread bound items)
    (w : ℕ) (within : w ≤ bound) where
  abbrev rows : SymId → Sym → List (List Tree)
  rows f symbol = rows_of items (args_of symbol) (w - weight_at parts f)

  in_applications : (f : SymId) (t : Tree) → In t (applications parts items w f) → IsApplied parts Spread w f t
  in_applications f t at = by (symbol_at parts f) refl at
    where
      by : (o : Option Sym) → symbol_at parts f ≡ o → In t (applications_of parts items w f o) → IsApplied parts Spread w f t
      by None found at = in_none at
      by (Some symbol) found at = test (is_explored parts f) (nat_le (weight_at parts f) w) refl refl at
        where
          test : (b c : Bool) → is_explored parts f ≡ b → nat_le (weight_at parts f) w ≡ c → In t (if b && c then over_each f (rows f symbol) else []) → IsApplied parts Spread w f t
          test true true e d at =
              let (args, p, is) = map_in (App f) (rows f symbol) at in
              let heavy : weight_at parts f ≤ w = search rules in
              subst (IsApplied parts Spread w f) (sym is)
              (applied parts Spread bound items are w f symbol (usable parts w f symbol well found e heavy) args (in_rows items (args_of symbol) (w - weight_at parts f) args p))
          test true false e d at = in_none at
          test false c e d at = in_none at

  applications_in : (f : SymId) (t : Tree) → IsApplied parts Spread w f t → In t (applications parts items w f)
  applications_in f t a =
      let p = sorted_app parts f a.args a.sort a.sorted in
      let e = weight-App parts f a.args in
      let d = a.weight_is in
      let heavy : weight_at parts f ≤ w = omega arith in
      let u = usable parts w f p.symbol well p.declared a.explored heavy in
      subst (λ o. In t (applications_of parts items w f o)) (sym p.declared)
      (by p.symbol (is_explored parts f) (nat_le (weight_at parts f) w) a.explored (search rules)
      (rows_in items (args_of p.symbol) (w - weight_at parts f) a.args (chosen parts Spread bound items are w f p.symbol u t a within)))
    where
      by : (symbol : Sym) (b c : Bool) → b ≡ true → c ≡ true → In a.args (rows f symbol) → In t (if b && c then over_each f (rows f symbol) else [])
      by symbol true true e d at = subst (λ y. In y (over_each f (rows f symbol))) (sym a.is) (in_map (App f) at)
      by symbol true false e d at = cc
      by symbol false c e d at = cc

  applications_rising : (f : SymId) → Rising (IsBelow parts) (applications parts items w f)
  applications_rising f = by (symbol_at parts f) refl
    where
      by : (o : Option Sym) → symbol_at parts f ≡ o → Rising (IsBelow parts) (applications_of parts items w f o)
      by None found = tt
      by (Some symbol) found = test (is_explored parts f) (nat_le (weight_at parts f) w) refl refl
        where
          test : (b c : Bool) → is_explored parts f ≡ b → nat_le (weight_at parts f) w ≡ c → Rising (IsBelow parts) (if b && c then over_each f (rows f symbol) else [])
          test true true e d =
              let heavy : weight_at parts f ≤ w = search rules in
              rising_map (Lex (IsBelow parts)) (IsBelow parts) (App f) (rows f symbol)
              (λ x y p q h. apps_below parts f x y (weighs heavy x p ∙ sym (weighs heavy y q)) h)
              (rows_rising items (IsBelow parts) are.rising (items_across parts Spread bound items are) (args_of symbol) (w - weight_at parts f))
            where
              weighs : weight_at parts f ≤ w → (args : List Tree) → In args (rows f symbol) → weight parts (App f args) ≡ w
              weighs heavy args p = (applied_over parts Spread w f (App f args)
                  (applied parts Spread bound items are w f symbol (usable parts w f symbol well found e heavy) args (in_rows items (args_of symbol) (w - weight_at parts f) args p))).1
          test true false e d = tt
          test false c e d = tt

  abbrev all_applications : List Tree
  all_applications = each_below (length parts.symbols) (λ i. applications parts items w (record { 0 = i }))

  pub considered_sound : (t : Tree) → In t (considered parts items w) → IsOver parts Spread t × (weight parts t ≡ w)
  considered_sound t at = elim (in_split (if w == 1 then first_variables parts else []) all_applications at) [
    | inl h ↦ let (b, first) = in_variables_if parts (w == 1) t h in by (record { 0 = first.number }) (eqb-true w 1 b) first.is (lt-ltb first.number (length parts.sort_names) first.declared) first.some
    | inr h ↦ let (i, less, p) = in_each_below (length parts.symbols) (λ i. applications parts items w (record { 0 = i })) h in
        applied_over parts Spread w (record { 0 = i }) t (in_applications (record { 0 = i }) t p)
  ]
    where
      by : (sort : SortId) → w ≡ 1 → t ≡ Var sort 0 → is_declared_sort parts sort ≡ true → nat_lt 0 (vars_at parts sort) ≡ true → IsOver parts Spread t × (weight parts t ≡ w)
      by sort one is declared some =
          let h = ltb-true 0 (vars_at parts sort) some in (
            subst (IsOver parts Spread) (sym is) (variable sort declared (omega arith)),
            ap (weight parts) is ∙ weight-Var parts sort 0 ∙ sym one,
          )

  pub considered_complete : (t : Tree) → IsOver parts Spread t → weight parts t ≡ w → In t (considered parts items w)
  considered_complete t (variable sort declared some) weighs =
      let one : w ≡ 1 = sym weighs ∙ weight-Var parts sort 0 in
      in_left all_applications (variables_if_in parts (w == 1) (Var sort 0) (eq-eqb w 1 one) (first_variables_in parts sort declared some))
  considered_complete t (application f cs sort explored each sorted) weighs =
      let p = sorted_app parts f cs sort sorted in
      in_right (if w == 1 then first_variables parts else [])
      (each_below_in (length parts.symbols) (λ i. applications parts items w (record { 0 = i })) f.0 (slice_get_within parts.symbols f.0 p.symbol p.declared)
      (applications_in f (App f cs) (record { args = cs; is = refl; explored = explored; each = each; sort = sort; sorted = sorted; weight_is = weighs })))

  pub considered_rising : Rising (IsBelow parts) (considered parts items w)
  considered_rising = rising_append (IsBelow parts) (if w == 1 then first_variables parts else []) all_applications
      (variables_if_rising parts (w == 1))
      (each_below_rising (IsBelow parts) (length parts.symbols) (λ i. applications parts items w (record { 0 = i }))
      (λ k less. applications_rising (record { 0 = k }))
      (λ j k less within s t p q.
      let a = in_applications (record { 0 = j }) s p in
      let b = in_applications (record { 0 = k }) t q in
      subst₂ (IsBelow parts) (sym a.is) (sym b.is) (symbols_below parts (record { 0 = j }) (record { 0 = k }) a.args b.args (a.weight_is ∙ sym b.weight_is) less)))
      (λ s t p q.
      let (one, a) = in_variables_if parts (w == 1) s p in
      let (i, less, at) = in_each_below (length parts.symbols) (λ i. applications parts items w (record { 0 = i })) q in
      let b = in_applications (record { 0 = i }) t at in
      subst₂ (IsBelow parts) (sym a.is) (sym b.is) (variable_below parts (record { 0 = a.number }) 0 (record { 0 = i }) b.args (b.weight_is ∙ eqb-true w 1 one)))
