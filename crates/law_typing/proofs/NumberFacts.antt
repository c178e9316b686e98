-- The number of a name, and the name of a number.
use Rattle.std.proofs.Common.{◌≡◌, ◌≢◌, ℕ, zero, suc, ◌+◌, ◌≤◌, List, [], ◌∷◌, drop, length, Bool, true, false, cond, Option, Some, None, slice_get, refl, sym, ap, ◌∙◌, subst, arith, true≢false}
use Rattle.std.specs.List.{position_from}
use Rattle.std.proofs.lemmas.List.{drop_all}
use Rattle.law_sig.specs.Lists.{Each, AreDistinct}
use Rattle.law_laws.proofs.BodyFacts.{some_is, none_is}
use Rattle.law_typing.specs.Names.{same_name, number_of, is_named}
use Rattle.law_typing.proofs.TermFacts.{drop_some, drop_none}
use Rattle.law_typing.proofs.NameTable.{names_same, same_itself}

-- a name stands at its number
pub stands_from : (name : List ℕ) (i : ℕ) (names : List (List ℕ)) (k : ℕ) → position_from (same_name name) i names ≡ Some k
    → (j : ℕ) × (k ≡ i + j) × (slice_get names j ≡ Some name)
stands_from name i [] k e = none_is k e
stands_from name i (x ∷ xs) k e = by (same_name name x) refl e (stands_from name (i + 1) xs k)
  where
    here : i ≡ i + 0
    here = omega arith

    later : (j : ℕ) → (i + 1) + j ≡ i + suc j
    later j = omega arith

    by : (b : Bool) → same_name name x ≡ b → cond b (Some i) (position_from (same_name name) (i + 1) xs) ≡ Some k
        → (position_from (same_name name) (i + 1) xs ≡ Some k → (j : ℕ) × (k ≡ (i + 1) + j) × (slice_get xs j ≡ Some name))
        → (j : ℕ) × (k ≡ i + j) × (slice_get (x ∷ xs) j ≡ Some name)
    by true s h rest = (0, sym (some_is i k h) ∙ here, ap Some (sym (names_same name x s)))
    by false s h rest = let found = rest h in (suc found.0, found.1 ∙ later found.0, found.2)

pub stands_at : (names : List (List ℕ)) (name : List ℕ) (k : ℕ) → number_of names name ≡ Some k → slice_get names k ≡ Some name
stands_at names name k e =
    let found = stands_from name 0 names k e in
    subst (λ n. slice_get names n ≡ Some name) (sym (found.1 ∙ plain found.0)) found.2
  where
    plain : (j : ℕ) → 0 + j ≡ j
    plain j = omega arith

-- what stands in a list has what each item has
pub each_at : {A : Type 0} (P : A → Type 0) (xs : List A) (k : ℕ) (x : A) → Each P xs → slice_get xs k ≡ Some x → P x
each_at P [] k x have e = none_is x e
each_at P (y ∷ ys) zero x have e = subst P (some_is y x e) have.0
each_at P (y ∷ ys) (suc k) x have e = each_at P ys k x have.1 e

different : (name x : List ℕ) → x ≢ name → same_name name x ≡ false
different name x apart = by (same_name name x) refl
  where
    by : (b : Bool) → same_name name x ≡ b → same_name name x ≡ false
    by false e = e
    by true e = absurd (apart (sym (names_same name x e)))

-- where no name stands twice, a name's number is the place where it stands
pub found_from : (name : List ℕ) (i : ℕ) (names : List (List ℕ)) (k : ℕ) → AreDistinct names → slice_get names k ≡ Some name
    → position_from (same_name name) i names ≡ Some (i + k)
found_from name i [] k distinct e = none_is name e
found_from name i (x ∷ xs) zero distinct e =
    ap (λ b. cond b (Some i) (position_from (same_name name) (i + 1) xs)) (ap (same_name name) (some_is x name e) ∙ same_itself name) ∙ ap Some here
  where
    here : i ≡ i + 0
    here = omega arith
found_from name i (x ∷ xs) (suc k) distinct e =
    ap (λ b. cond b (Some i) (position_from (same_name name) (i + 1) xs)) (different name x (each_at (λ y. x ≢ y) xs k name distinct.0 e))
    ∙ found_from name (i + 1) xs k distinct.1 e ∙ ap Some later
  where
    later : (i + 1) + k ≡ i + suc k
    later = omega arith

pub found_at : (names : List (List ℕ)) (name : List ℕ) (k : ℕ) → AreDistinct names → slice_get names k ≡ Some name → number_of names name ≡ Some k
found_at names name k distinct e = found_from name 0 names k distinct e ∙ ap Some plain
  where
    plain : 0 + k ≡ k
    plain = omega arith

-- Names looked at one after another

pub named_here : (names : List (List ℕ)) (name : List ℕ) (at : ℕ) → is_named name (slice_get names at) ≡ true
    → position_from (same_name name) at (drop at names) ≡ Some at
named_here names name at e = by (slice_get names at) refl e
  where
    by : (o : Option (List ℕ)) → slice_get names at ≡ o → is_named name o ≡ true → position_from (same_name name) at (drop at names) ≡ Some at
    by None k h = absurd (true≢false (sym h))
    by (Some x) k h = ap (position_from (same_name name) at) (drop_some names at x k)
        ∙ ap (λ b. cond b (Some at) (position_from (same_name name) (at + 1) (drop (suc at) names))) h

pub named_later : (names : List (List ℕ)) (name : List ℕ) (at : ℕ) → is_named name (slice_get names at) ≡ false
    → position_from (same_name name) at (drop at names) ≡ position_from (same_name name) (at + 1) (drop (at + 1) names)
named_later names name at e = by (slice_get names at) refl e
  where
    next : suc at ≡ at + 1
    next = omega arith

    both_none : slice_get names at ≡ None → drop at names ≡ []
    both_none k = drop_none names at k

    after_none : slice_get names at ≡ None → drop (at + 1) names ≡ []
    after_none k = drop_all (at + 1) names (past names at k)
      where
        past : {A : Type 0} (xs : List A) (i : ℕ) → slice_get xs i ≡ None → length xs ≤ i + 1
        past [] i h = omega arith
        past (x ∷ xs) zero h = none_is x (sym h)
        past (x ∷ xs) (suc i) h = let r = past xs i h in omega arith

    by : (o : Option (List ℕ)) → slice_get names at ≡ o → is_named name o ≡ false
        → position_from (same_name name) at (drop at names) ≡ position_from (same_name name) (at + 1) (drop (at + 1) names)
    by None k h = ap (position_from (same_name name) at) (both_none k) ∙ sym (ap (position_from (same_name name) (at + 1)) (after_none k))
    by (Some x) k h = ap (position_from (same_name name) at) (drop_some names at x k)
        ∙ ap (λ b. cond b (Some at) (position_from (same_name name) (at + 1) (drop (suc at) names))) h
        ∙ ap (λ n. position_from (same_name name) (at + 1) (drop n names)) next

pub none_named : (names : List (List ℕ)) (name : List ℕ) (at : ℕ) → length names ≤ at → position_from (same_name name) at (drop at names) ≡ None
none_named names name at beyond = ap (position_from (same_name name) at) (drop_all at names beyond)

pub ruleset find_facts = (named_here, named_later, none_named)
