-- Names that don't stand before their own line are distinct.
use Rattle.std.proofs.Common.{◌≡◌, ◌≢◌, ℕ, zero, suc, ◌+◌, ◌<◌, ◌≤◌, List, [], ◌∷◌, ◌++◌, map, length, Bool, true, false, true≢false, cond, nat_lt, nat_le, Some, slice_get, rules, arith, append_assoc, refl, sym, ap, ◌∙◌, subst}
use Rattle.std.specs.List.{position_from}
use Rattle.law_sig.specs.Lists.{Each, AreDistinct}
use Rattle.law_laws.proofs.BodyFacts.{some_is, none_is}
use Rattle.law_lines.specs.declared.raw.RawLine.{RawLine}
use Rattle.law_typing.specs.Names.{same_name, is_below, stands_before}
use Rattle.law_typing.specs.LineFaults.{after_sort, after_symbol, after_match, after_case}
use Rattle.law_typing.specs.Typed.{Version}
use Rattle.law_typing.specs.declared.seen.Seen.{Seen}
use Rattle.law_typing.specs.declared.whole.Whole.{Whole}
use Rattle.law_typing.proofs.NameTable.{same_itself}
use Rattle.law_typing.proofs.Laid.{ConRow, SortRow, CaseRow, Rules, FunRow}
use Rattle.law_typing.proofs.Laid.Rules.{single, matching}
use Rattle.law_typing.proofs.Gathered.{per_con}
use Rattle.law_typing.proofs.Passed.{ConsGood, SortsGood, FunsGood, cons_seen, sorts_seen, cases_seen, rules_seen}

-- these names stand at places from k on, below a limit, and none stands before its place
abbrev pub FreshFrom : ℕ → List (List ℕ) → ℕ → List (List ℕ) → Type 0
FreshFrom limit all k [] = Unit {0}
FreshFrom limit all k (n ∷ names) = (nat_le limit k ≡ false) × (stands_before all k n ≡ false) × FreshFrom limit all (k + 1) names

pub fresh_few : (limit : ℕ) (all : List (List ℕ)) (k : ℕ) (names : List (List ℕ)) → FreshFrom limit all k names → k ≤ limit → k + length names ≤ limit
fresh_few limit all k [] h l = omega arith
fresh_few limit all k (n ∷ names) h l =
    let below : k < limit = search (rules, h.0) in
    let next : k + 1 ≤ limit = omega arith in
    let r = fresh_few limit all (k + 1) names h.2 next in omega arith

fresh_at : (limit : ℕ) (all : List (List ℕ)) (k : ℕ) (names : List (List ℕ)) → FreshFrom limit all k names → (i : ℕ) (name : List ℕ)
    → slice_get names i ≡ Some name → stands_before all (k + i) name ≡ false
fresh_at limit all k [] h i name e = none_is name e
fresh_at limit all k (n ∷ names) h zero name e =
    let plain : k + 0 ≡ k = omega arith in
    subst (λ z. stands_before all (k + 0) z ≡ false) (some_is n name e) (ap (λ z. stands_before all z n) plain ∙ h.1)
fresh_at limit all k (n ∷ names) h (suc i) name e =
    let later : (k + 1) + i ≡ k + suc i = omega arith in
    subst (λ z. stands_before all z name ≡ false) later (fresh_at limit all (k + 1) names h.2 i name e)

-- a name's number is no greater than its place
number_low : (name : List ℕ) (from : ℕ) (names : List (List ℕ)) (i : ℕ) → slice_get names i ≡ Some name
    → (j : ℕ) × (position_from (same_name name) from names ≡ Some j) × (j ≤ from + i)
number_low name from [] i e = none_is name e
number_low name from (n ∷ names) zero e =
    let same : same_name name n ≡ true = ap (same_name name) (some_is n name e) ∙ same_itself name in
    (from, ap (λ b. cond b (Some from) (position_from (same_name name) (from + 1) names)) same, omega arith)
number_low name from (n ∷ names) (suc i) e = by (same_name name n) refl (number_low name (from + 1) names i e)
  where
    by : (b : Bool) → same_name name n ≡ b → ((j : ℕ) × (position_from (same_name name) (from + 1) names ≡ Some j) × (j ≤ (from + 1) + i))
        → (j : ℕ) × (position_from (same_name name) from (n ∷ names) ≡ Some j) × (j ≤ from + suc i)
    by true k r = (from, ap (λ b. cond b (Some from) (position_from (same_name name) (from + 1) names)) k, omega arith)
    by false k r = let l : r.0 ≤ from + suc i = omega (arith, r.2) in
        (r.0, ap (λ b. cond b (Some from) (position_from (same_name name) (from + 1) names)) k ∙ r.1, l)

each_by_place : {A : Type 0} (P : A → Type 0) (xs : List A) → ((j : ℕ) (y : A) → slice_get xs j ≡ Some y → P y) → Each P xs
each_by_place P [] h = tt
each_by_place P (x ∷ xs) h = (h zero x refl, each_by_place P xs (λ j y e. h (suc j) y e))

pub distinct_places : {A : Type 0} (xs : List A) → ((i j : ℕ) (x y : A) → i < j → slice_get xs i ≡ Some x → slice_get xs j ≡ Some y → x ≢ y) → AreDistinct xs
distinct_places [] h = tt
distinct_places (x ∷ xs) h = (
  each_by_place (λ y. x ≢ y) xs (λ j y e. h zero (suc j) x y (omega arith) refl e),
  distinct_places xs (λ i j a b l e k. let m : suc i < suc j = omega arith in h (suc i) (suc j) a b m e k),
)

pub fresh_distinct : (limit : ℕ) (names : List (List ℕ)) → FreshFrom limit names 0 names → AreDistinct names
fresh_distinct limit names h = distinct_places names apart
  where
    apart : (i j : ℕ) (x y : List ℕ) → i < j → slice_get names i ≡ Some x → slice_get names j ≡ Some y → x ≢ y
    apart i j x y l e k same =
        let found = number_low y 0 names i (e ∙ ap Some same) in
        let plain : 0 + j ≡ j = omega arith in
        let fresh : stands_before names j y ≡ false = subst (λ z. stands_before names z y ≡ false) plain (fresh_at limit names 0 names h j y k) in
        let low : found.0 < j = omega (arith, found.2) in
        let is : nat_lt found.0 j ≡ true = search (rules, low) in
        true≢false (sym is ∙ sym (ap (is_below j) found.1) ∙ fresh)

-- The names of a text

fresh_sort : (text : Whole) (seen : Seen) (ss : List SortRow) → SortsGood text seen ss → FreshFrom 64 text.sorts seen.sorts (map (λ (s : SortRow). s.name) ss)
fresh_sort text seen [] h = tt
fresh_sort text seen (s ∷ ss) h = (
  h.0.low,
  h.0.fresh,
  subst (λ k. FreshFrom 64 text.sorts k (map (λ (s : SortRow). s.name) ss)) (cons_sorts (after_sort seen) s.cons) (fresh_sort text (cons_seen (after_sort seen) s.cons) ss h.2),
)
  where
    cons_sorts : (seen : Seen) (cs : List ConRow) → (cons_seen seen cs).sorts ≡ seen.sorts
    cons_sorts seen [] = refl
    cons_sorts seen (c ∷ cs) = cons_sorts (after_symbol seen) cs

pub fresh_sorts : (text : Whole) (ss : List SortRow) (seen : Seen) → seen.sorts ≡ 0 → SortsGood text seen ss → FreshFrom 64 text.sorts 0 (map (λ (s : SortRow). s.name) ss)
fresh_sorts text ss seen start h = subst (λ k. FreshFrom 64 text.sorts k (map (λ (s : SortRow). s.name) ss)) start (fresh_sort text seen ss h)

abbrev Limit : ℕ
Limit = 4294967295

cons_fresh : (text : Whole) (seen : Seen) (cs : List ConRow) (names : List (List ℕ)) → ConsGood text seen cs
    → FreshFrom Limit text.names (cons_seen seen cs).symbols names → FreshFrom Limit text.names seen.symbols (map (λ (c : ConRow). c.name) cs ++ names)
cons_fresh text seen [] names h r = r
cons_fresh text seen (c ∷ cs) names h r = (h.0.name.low, h.0.name.fresh, cons_fresh text (after_symbol seen) cs names h.1 r)

sorts_fresh : (text : Whole) (seen : Seen) (ss : List SortRow) (names : List (List ℕ)) → SortsGood text seen ss
    → FreshFrom Limit text.names (sorts_seen seen ss).symbols names → FreshFrom Limit text.names seen.symbols (per_con (λ c. c.name) ss ++ names)
sorts_fresh text seen [] names h r = r
sorts_fresh text seen (s ∷ ss) names h r =
    subst (λ z. FreshFrom Limit text.names seen.symbols z) (sym (append_assoc (map (λ (c : ConRow). c.name) s.cons) (per_con (λ c. c.name) ss) names))
    (cons_fresh text (after_sort seen) s.cons (per_con (λ c. c.name) ss ++ names) h.1 (sorts_fresh text (cons_seen (after_sort seen) s.cons) ss names h.2 r))

pub cases_symbols : (seen : Seen) (cs : List CaseRow) → (cases_seen seen cs).symbols ≡ seen.symbols
cases_symbols seen [] = refl
cases_symbols seen (c ∷ cs) = cases_symbols (after_case c.con seen) cs

pub rules_symbols : (seen : Seen) (r : Rules) → (rules_seen seen r).symbols ≡ seen.symbols
rules_symbols seen (single t) = refl
rules_symbols seen (matching n cs) = cases_symbols (after_match n seen) cs

funs_fresh : (text : Whole) (v : Version) (seen : Seen) (fs : List FunRow) (tail : List RawLine) → FunsGood text v seen fs tail
    → FreshFrom Limit text.names seen.symbols (map (λ (r : FunRow). r.name) fs)
funs_fresh text v seen [] tail h = tt
funs_fresh text v seen (r ∷ fs) tail h = (
  h.0.name.low,
  h.0.name.fresh,
  subst (λ k. FreshFrom Limit text.names k (map (λ (r : FunRow). r.name) fs)) (rules_symbols (after_symbol seen) r.rules)
      (funs_fresh text v (rules_seen (after_symbol seen) r.rules) fs tail h.2),
)

pub fresh_names : (text : Whole) (v : Version) (seen : Seen) (ss : List SortRow) (fs : List FunRow) (tail : List RawLine) → seen.symbols ≡ 0 → SortsGood text seen ss
    → FunsGood text v (sorts_seen seen ss) fs tail → FreshFrom 4294967295 text.names 0 (per_con (λ c. c.name) ss ++ map (λ (r : FunRow). r.name) fs)
fresh_names text v seen ss fs tail start h k =
    subst (λ z. FreshFrom Limit text.names z (per_con (λ c. c.name) ss ++ map (λ (r : FunRow). r.name) fs)) start
    (sorts_fresh text seen ss (map (λ (r : FunRow). r.name) fs) h (funs_fresh text v (sorts_seen seen ss) fs tail k))
