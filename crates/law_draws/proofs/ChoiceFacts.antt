-- Which constructors may be chosen.
use Rattle.std.proofs.Common.{◌≡◌, ℕ, zero, suc, ◌+◌, ◌<◌, ◌≤◌, Bool, true, false, ◌&&◌, ◌||◌, cond, if◌then◌else◌, Option, Some, None, option_map, slice_get, List, [], ◌∷◌, ◌++◌, length, take, slice_index_or, sym, refl, ap, ap₂, ◌∙◌, subst, arith, zero-add, ltb-true}
use Rattle.std.specs.List.{list_all, list_any, filter}
use Rattle.law_sig.specs.Lists.{Each}
use Rattle.law_sig.specs.Trees.{same_sort}
use Rattle.law_sig.specs.Signature.{symbol_at, args_of, makes_sort, constructors, constructors_from}
use Rattle.law_sig.specs.WellFormed.{makes_from, is_within_height, IsDeclared, IsWellFormed}
use Rattle.law_sig.specs.declared.tree.SortId.{SortId}
use Rattle.law_sig.specs.declared.tree.SymId.{SymId}
use Rattle.law_sig.specs.declared.parts.Sym.{Sym}
use Rattle.law_sig.specs.declared.parts.Sym.TheVariants as sort_of_symbol
use Rattle.law_sig.specs.declared.parts.SigParts.{SigParts}
use Rattle.law_draws.specs.Draws.{sorts_in, fits_over, choices}
use Rattle.law_draws.specs.Choices.{level_of, is_some_choice}
use Rattle.law_ids.proofs.Reading.{take_next}
use Rattle.law_draws.proofs.First.{first_at}

-- one item more of a filtered list
filter_more : {A : Type 0} (P : A → Bool) (xs : List A) (x : A) → filter P (xs ++ x ∷ []) ≡ filter P xs ++ cond (P x) (x ∷ []) []
filter_more P [] x = refl
filter_more P (y ∷ xs) x = by (P y) (filter_more P xs x)
  where
    by : (b : Bool) → filter P (xs ++ x ∷ []) ≡ filter P xs ++ cond (P x) (x ∷ []) []
        → cond b (y ∷ filter P (xs ++ x ∷ [])) (filter P (xs ++ x ∷ [])) ≡ cond b (y ∷ filter P xs) (filter P xs) ++ cond (P x) (x ∷ []) []
    by true h = ap (λ l. y ∷ l) h
    by false h = h

pub filter_next : {A : Type 0} (P : A → Bool) (xs : List A) (at : ℕ) (x : A) → at < length xs → x ≡ slice_index_or xs at x
    → filter P (take (at + 1) xs) ≡ filter P (take at xs) ++ cond (P x) (x ∷ []) []
filter_next P xs at x h is = ap (filter P) (take_next xs at x h is) ∙ filter_more P (take at xs) x

-- The constructors of a sort are declared

pub record IsMaker (all : List Sym) (sort : SortId) (f : SymId) : Type 0 where
  pub symbol : Sym
  pub there : slice_get all f.0 ≡ Some symbol
  pub makes : makes_sort sort symbol ≡ true

makers_from : (all : List Sym) (sort : SortId) (k : ℕ) (symbols : List Sym) → ((i : ℕ) → slice_get symbols i ≡ slice_get all (k + i)) → Each (IsMaker all sort) (constructors_from k symbols sort)
makers_from all sort k [] same = tt
makers_from all sort k (symbol ∷ symbols) same = by (makes_sort sort symbol) refl (makers_from all sort (k + 1) symbols (λ i. same (suc i) ∙ ap (slice_get all) (later k i)))
  where
    later : (k i : ℕ) → k + suc i ≡ k + 1 + i
    later k i = omega arith

    plain : (k : ℕ) → k + 0 ≡ k
    plain k = omega arith

    by : (b : Bool) → makes_sort sort symbol ≡ b → Each (IsMaker all sort) (constructors_from (k + 1) symbols sort)
        → Each (IsMaker all sort) (if b then record { 0 = k } ∷ constructors_from (k + 1) symbols sort else constructors_from (k + 1) symbols sort)
    by true e rest = (record { symbol = symbol; there = ap (slice_get all) (sym (plain k)) ∙ sym (same 0); makes = e }, rest)
    by false e rest = rest

pub makers : (parts : SigParts) (sort : SortId) → Each (IsMaker parts.symbols sort) (constructors parts sort)
makers parts sort = makers_from parts.symbols sort 0 parts.symbols (λ i. ap (slice_get parts.symbols) (sym (zero-add i)))

pub there_within : {A : Type 0} (xs : List A) (at : ℕ) (x : A) → slice_get xs at ≡ Some x → at < length xs
there_within [] at x e = cc
there_within (y ∷ xs) zero x e = omega arith
there_within (y ∷ xs) (suc n) x e = let h : n < length xs = there_within xs n x e in omega arith

-- the sorts of a declared symbol's fields
pub sorts_are : (o : Option Sym) (sorts : List SortId) → option_map args_of o ≡ Some sorts → sorts_in o ≡ sorts
sorts_are None sorts e = cc
sorts_are (Some symbol) sorts e = cc

pub sorts_declared : (parts : SigParts) → IsWellFormed parts → (f : SymId) (sorts : List SortId) → option_map args_of (symbol_at parts f) ≡ Some sorts
    → Each (λ (s : SortId). s.0 < length parts.sort_names) sorts × (length sorts ≤ 8)
sorts_declared parts well f sorts e = by (symbol_at parts f) refl e
  where
    all : (ss : List SortId) → Each (IsDeclared parts) ss → Each (λ (s : SortId). s.0 < length parts.sort_names) ss
    all [] h = tt
    all (s ∷ ss) h = (ltb-true s.0 (length parts.sort_names) h.0, all ss h.1)

    by : (o : Option Sym) → symbol_at parts f ≡ o → option_map args_of o ≡ Some sorts → Each (λ (s : SortId). s.0 < length parts.sort_names) sorts × (length sorts ≤ 8)
    by None k h = cc
    by (Some symbol) k h =
        let is : args_of symbol ≡ sorts = cc in (
          subst (Each (λ (s : SortId). s.0 < length parts.sort_names)) is (all (args_of symbol) (well.symbols f symbol k).args_declared),
          subst (λ l. length l ≤ 8) is (well.symbols f symbol k).args_bound,
        )

-- A sort has a value of a height exactly where there is a constructor to choose

some_here : (p : Bool) (f : SymId) (others : List SymId) (any : Bool) → is_some_choice others ≡ any → is_some_choice (cond p (f ∷ others) others) ≡ (p || any)
some_here true f others any e = refl
some_here false f others any e = e

some_from : (parts : SigParts) (n : ℕ) (sort : SortId) (k : ℕ) (symbols : List Sym) → ((i : ℕ) → slice_get symbols i ≡ slice_get parts.symbols (k + i))
    → is_some_choice (filter (fits_over parts n) (constructors_from k symbols sort)) ≡ list_any (makes_from (is_within_height parts n) sort) symbols
some_from parts n sort k [] same = refl
some_from parts n sort k (sort_of_symbol.Fun fun ∷ symbols) same = some_from parts n sort (k + 1) symbols (λ i. same (suc i) ∙ ap (slice_get parts.symbols) (later k i))
  where
    later : (k i : ℕ) → k + suc i ≡ k + 1 + i
    later k i = omega arith
some_from parts n sort k (sort_of_symbol.Con con ∷ symbols) same = by (same_sort con.sort sort) (some_from parts n sort (k + 1) symbols (λ i. same (suc i) ∙ ap (slice_get parts.symbols) (later k i)))
  where
    later : (k i : ℕ) → k + suc i ≡ k + 1 + i
    later k i = omega arith

    plain : (k : ℕ) → k + 0 ≡ k
    plain k = omega arith

    here : fits_over parts n (record { 0 = k }) ≡ list_all (is_within_height parts n) con.args
    here = ap (λ o. list_all (is_within_height parts n) (sorts_in o)) (ap (slice_get parts.symbols) (sym (plain k)) ∙ sym (same 0))

    by : (b : Bool) → is_some_choice (filter (fits_over parts n) (constructors_from (k + 1) symbols sort)) ≡ list_any (makes_from (is_within_height parts n) sort) symbols
        → is_some_choice (filter (fits_over parts n) (if b then record { 0 = k } ∷ constructors_from (k + 1) symbols sort else constructors_from (k + 1) symbols sort))
        ≡ ((b && list_all (is_within_height parts n) con.args) || list_any (makes_from (is_within_height parts n) sort) symbols)
    by true rest = some_here (fits_over parts n (record { 0 = k })) (record { 0 = k }) (filter (fits_over parts n) (constructors_from (k + 1) symbols sort)) _ rest
        ∙ ap (λ p. p || list_any (makes_from (is_within_height parts n) sort) symbols) here
    by false rest = rest

pub some_choice : (parts : SigParts) (height : ℕ) (sort : SortId) → is_some_choice (choices parts height sort) ≡ is_within_height parts height sort
unfolding is_within_height
some_choice parts zero sort = refl
some_choice parts (suc n) sort = some_from parts n sort 0 parts.symbols (λ i. ap (slice_get parts.symbols) (sym (zero-add i)))

pub fits_is : (parts : SigParts) (height : ℕ) (below : List (List SymId)) (sorts : List SortId) → below ≡ level_of parts height
    → Each (λ (s : SortId). s.0 < length parts.sort_names) sorts
    → list_all (λ (s : SortId). is_some_choice (slice_index_or below s.0 [])) sorts ≡ list_all (is_within_height parts height) sorts
fits_is parts height below [] is declared = refl
fits_is parts height below (s ∷ sorts) is declared =
    ap₂ ◌&&◌
    (ap (λ b. is_some_choice (slice_index_or b s.0 [])) is
    ∙ ap is_some_choice (first_at (length parts.sort_names) (λ n. choices parts height (record { 0 = n })) s.0 [] declared.0)
    ∙ some_choice parts height s)
    (fits_is parts height below sorts is declared.1)

-- one constructor more is looked at
pub found_next : (parts : SigParts) → IsWellFormed parts → (height : ℕ) (below : List (List SymId)) (among found more : List SymId) (at : ℕ) (f : SymId) (sorts : List SortId) (fit : Bool)
    → below ≡ level_of parts height → at < length among → f ≡ slice_index_or among at f → option_map args_of (symbol_at parts f) ≡ Some sorts
    → fit ≡ list_all (λ (s : SortId). is_some_choice (slice_index_or below s.0 [])) sorts
    → found ≡ filter (fits_over parts height) (take at among) → more ≡ found ++ cond fit (f ∷ []) []
    → more ≡ filter (fits_over parts height) (take (at + 1) among)
found_next parts well height below among found more at f sorts fit is within at_f is_sorts is_fit is_found is_more =
    let same : fit ≡ fits_over parts height f =
    is_fit ∙ fits_is parts height below sorts is (sorts_declared parts well f sorts is_sorts).0 ∙ ap (list_all (is_within_height parts height)) (sym (sorts_are (symbol_at parts f) sorts is_sorts)) in
    is_more ∙ ap₂ (λ l b. l ++ cond b (f ∷ []) []) is_found same ∙ sym (filter_next (fits_over parts height) among at f within at_f)

-- what stands at a place, whatever stands for none
pub at_place : {A : Type 0} (xs : List A) (at : ℕ) (d e : A) → at < length xs → slice_index_or xs at d ≡ slice_index_or xs at e
at_place [] at d e h = absurd (omega arith)
at_place (x ∷ xs) zero d e h = refl
at_place (x ∷ xs) (suc n) d e h = at_place xs n d e (omega arith)
