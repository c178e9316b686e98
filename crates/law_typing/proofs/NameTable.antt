-- A table that finds the first place of each name, after one more name.
use Rattle.std.proofs.Common.{◌≡◌, ℕ, ◌+◌, List, [], ◌∷◌, ◌++◌, length, Bool, true, false, cond, Option, Some, None, refl, sym, ap, ◌∙◌, arith, true≢false, is_some, nat_eq, eqb-true, eq-eqb, ap₂, ◌&&◌}
use Rattle.std.specs.Prelude.{Vec, vec_items}
use Rattle.std.specs.Map.{lookup}
use Rattle.std.specs.List.{position_from}
use Rattle.std.specs.Option.{option_or}
use Rattle.indexmap.specs.IndexMap.{IndexMap, get, insert_entry}
use Rattle.indexmap.proofs.CallerLemmas.{insert_entry-new}
use Rattle.law_typing.specs.Names.{same_name, number_of}
use Rattle.law_typing.specs.Table.{Finds}

-- names that test as the same are the same
pub names_same : (x y : List ℕ) → same_name x y ≡ true → x ≡ y
names_same [] [] e = refl
names_same [] (y ∷ ys) e = absurd (true≢false (sym e))
names_same (x ∷ xs) [] e = absurd (true≢false (sym e))
names_same (x ∷ xs) (y ∷ ys) e = by (nat_eq x y) refl (names_same xs ys) e
  where
    by : (b : Bool) → nat_eq x y ≡ b → (same_name xs ys ≡ true → xs ≡ ys) → (b && same_name xs ys) ≡ true → (x ∷ xs) ≡ (y ∷ ys)
    by true k rest h = ap₂ ◌∷◌ (eqb-true x y k) (rest h)
    by false k rest h = absurd (true≢false (sym h))

pub same_itself : (x : List ℕ) → same_name x x ≡ true
same_itself [] = refl
same_itself (x ∷ xs) = ap₂ ◌&&◌ (eq-eqb x x refl) (same_itself xs)

-- the first place in a list with one more item
pub position_more : {K : Type 0} (t : K → Bool) (i : ℕ) (xs : List K) (y : K)
    → position_from t i (xs ++ y ∷ []) ≡ option_or (position_from t i xs) (cond (t y) (Some (i + length xs)) None)
position_more t i [] y = ap (λ n. cond (t y) (Some n) None) plain
  where
    plain : i ≡ i + 0
    plain = omega arith
position_more {K} t i (x ∷ xs) y = by (t x) (position_more t (i + 1) xs y)
  where
    next : (i + 1) + length xs ≡ i + length (x ∷ xs)
    next = grind arith

    by : (b : Bool) → position_from t (i + 1) (xs ++ y ∷ []) ≡ option_or (position_from t (i + 1) xs) (cond (t y) (Some ((i + 1) + length xs)) None)
        → cond b (Some i) (position_from t (i + 1) (xs ++ y ∷ []))
        ≡ option_or (cond b (Some i) (position_from t (i + 1) xs)) (cond (t y) (Some (i + length (x ∷ xs))) None)
    by true h = refl
    by false h = h ∙ ap (λ n. option_or (position_from t (i + 1) xs) (cond (t y) (Some n) None)) next

-- an entry in a list with one more entry
pub lookup_more : {K X : Type 0} (test : K → Bool) (es : List (K × X)) (e : K × X)
    → lookup test (es ++ e ∷ []) ≡ option_or (lookup test es) (cond (test e.0) (Some e.1) None)
lookup_more test [] e = refl
lookup_more {K} {X} test (x ∷ es) e = by (test x.0) (lookup_more test es e)
  where
    by : (b : Bool) → lookup test (es ++ e ∷ []) ≡ option_or (lookup test es) (cond (test e.0) (Some e.1) None)
        → cond b (Some x.1) (lookup test (es ++ e ∷ [])) ≡ option_or (cond b (Some x.1) (lookup test es)) (cond (test e.0) (Some e.1) None)
    by true h = refl
    by false h = h

-- a name that has a first place is found there still, and the other names too
pub still_finds : {A : Type 0} (names : List (List ℕ)) (es : List (Vec ℕ A × ℕ)) (name : List ℕ) → is_some (number_of names name) ≡ true
    → Finds names es → Finds (names ++ name ∷ []) es
still_finds names es name known finds q = finds q ∙ by (number_of names q) refl ∙ sym (position_more (same_name q) 0 names name)
  where
    tested : (b : Bool) → same_name q name ≡ b → number_of names q ≡ None
        → None ≡ cond b (Some (0 + length names)) None
    tested false e none = refl
    tested true e none = absurd (true≢false (sym known ∙ ap is_some (ap (number_of names) (sym (names_same q name e)) ∙ none)))

    by : (o : Option ℕ) → number_of names q ≡ o → number_of names q ≡ option_or (number_of names q) (cond (same_name q name) (Some (0 + length names)) None)
    by (Some n) e = e ∙ ap (λ x. option_or x (cond (same_name q name) (Some (0 + length names)) None)) (sym e)
    by None e = e ∙ tested (same_name q name) refl e ∙ ap (λ x. option_or x (cond (same_name q name) (Some (0 + length names)) None)) (sym e)

-- a new name is found at the end
pub finds_new : {A : Type 0} (names : List (List ℕ)) (es : List (Vec ℕ A × ℕ)) (name : List ℕ) (key : Vec ℕ A) (place : ℕ)
    → key.items ≡ name → place ≡ length names → Finds names es → Finds (names ++ name ∷ []) (es ++ (key, place) ∷ [])
finds_new names es name key place k p finds q =
    lookup_more (λ w. same_name q (vec_items w)) es (key, place)
    ∙ ap (λ o. option_or o (cond (same_name q (vec_items key)) (Some place) None)) (finds q)
    ∙ ap (λ n. option_or (number_of names q) (cond (same_name q n) (Some place) None)) k
    ∙ ap (λ n. option_or (number_of names q) (cond (same_name q name) (Some n) None)) (p ∙ start)
    ∙ sym (position_more (same_name q) 0 names name)
  where
    start : length names ≡ 0 + length names
    start = omega arith

-- after an insertion of a key that had no entry
pub noted : {K X S : Type 0} (eq : K → K → Bool) (m : IndexMap K X S) (k : K) (v : X) (new : List (K × X)) → get eq m k ≡ None
    → new ≡ insert_entry eq m.entries k v → new ≡ m.entries ++ (k, v) ∷ []
noted eq m k v new none is = is ∙ insert_entry-new eq m k v none

-- the same, where the new lists are given by equations
pub still_found : {A : Type 0} (names : List (List ℕ)) (es : List (Vec ℕ A × ℕ)) (name : List ℕ) (names' : List (List ℕ)) (es' : List (Vec ℕ A × ℕ))
    → is_some (number_of names name) ≡ true → Finds names es → names' ≡ names ++ name ∷ [] → es' ≡ es → Finds names' es'
still_found names es name names' es' known finds n e q =
    ap (lookup (λ w. same_name q (vec_items w))) e ∙ still_finds names es name known finds q ∙ ap (λ l. number_of l q) (sym n)

pub found_new : {A : Type 0} (names : List (List ℕ)) (es : List (Vec ℕ A × ℕ)) (name : List ℕ) (key : Vec ℕ A) (place : ℕ)
    (names' : List (List ℕ)) (es' : List (Vec ℕ A × ℕ))
    → key.items ≡ name → place ≡ length names → Finds names es → names' ≡ names ++ name ∷ [] → es' ≡ es ++ (key, place) ∷ [] → Finds names' es'
found_new names es name key place names' es' k p finds n e q =
    ap (lookup (λ w. same_name q (vec_items w))) e ∙ finds_new names es name key place k p finds q ∙ ap (λ l. number_of l q) (sym n)
