-- Tables of names that grow.
use Rattle.std.proofs.Common.{◌≡◌, ℕ, zero, suc, ◌+◌, List, [], ◌∷◌, ◌++◌, length, Bool, true, false, cond, Option, Some, None, refl, sym, ap, ◌∙◌, arith, true≢false, is_some, slice_get, take, subst}
use Rattle.std.specs.Prelude.{Vec, vec_items}
use Rattle.std.specs.Map.{lookup}
use Rattle.std.specs.Option.{option_or}
use Rattle.law_laws.proofs.BodyFacts.{some_is, none_is}
use Rattle.law_typing.specs.Names.{same_name, number_of}
use Rattle.law_typing.specs.Table.{Finds}
use Rattle.law_typing.proofs.NameTable.{names_same, position_more, lookup_more}
use Rattle.law_checking.specs.NameTables.{noted, FindsMore}

-- a name that is noted is found there still, and the other names too
pub still_finds : {A : Type 0} (es : List (Vec ℕ A × ℕ)) (name : List ℕ) (number : ℕ) → is_some (noted name es) ≡ true → FindsMore es name number es
still_finds es name number known names finds at q = finds q ∙ by (number_of names q) refl ∙ sym (position_more (same_name q) 0 names name)
  where
    tested : (b : Bool) → same_name q name ≡ b → number_of names q ≡ None → None ≡ cond b (Some (0 + length names)) None
    tested false e none = refl
    tested true e none = absurd (true≢false (sym known ∙ ap is_some (finds name ∙ ap (number_of names) (sym (names_same q name e)) ∙ none)))

    by : (o : Option ℕ) → number_of names q ≡ o → number_of names q ≡ option_or (number_of names q) (cond (same_name q name) (Some (0 + length names)) None)
    by (Some n) e = e ∙ ap (λ x. option_or x (cond (same_name q name) (Some (0 + length names)) None)) (sym e)
    by None e = e ∙ tested (same_name q name) refl e ∙ ap (λ x. option_or x (cond (same_name q name) (Some (0 + length names)) None)) (sym e)

-- a new name is found at the end
pub finds_new : {A : Type 0} (es : List (Vec ℕ A × ℕ)) (name : List ℕ) (key : Vec ℕ A) (number : ℕ) (new : List (Vec ℕ A × ℕ))
    → key.items ≡ name → new ≡ es ++ (key, number) ∷ [] → FindsMore es name number new
finds_new es name key number new k is names finds at q =
    ap (lookup (λ w. same_name q (vec_items w))) is
    ∙ lookup_more (λ w. same_name q (vec_items w)) es (key, number)
    ∙ ap (λ o. option_or o (cond (same_name q (vec_items key)) (Some number) None)) (finds q)
    ∙ ap (λ n. option_or (number_of names q) (cond (same_name q n) (Some number) None)) k
    ∙ ap (λ n. option_or (number_of names q) (cond (same_name q name) (Some n) None)) (at ∙ start)
    ∙ sym (position_more (same_name q) 0 names name)
  where
    start : length names ≡ 0 + length names
    start = omega arith

pub taken : {A : Type 0} (xs : List A) (at : ℕ) (x : A) → slice_get xs at ≡ Some x → take (at + 1) xs ≡ take at xs ++ x ∷ []
taken [] at x h = none_is x h
taken (y ∷ xs) zero x h = ap (λ w. w ∷ []) (some_is y x h)
taken (y ∷ xs) (suc n) x h =
    let next : suc n + 1 ≡ suc (n + 1) = omega arith in
    ap (λ k. take k (y ∷ xs)) next ∙ ap (λ l. y ∷ l) (taken xs n x h)

pub long : {A : Type 0} (xs : List A) (at : ℕ) (x : A) → slice_get xs at ≡ Some x → at ≡ length (take at xs)
long [] at x h = none_is x h
long (y ∷ xs) zero x h = refl
long (y ∷ xs) (suc n) x h = let h = long xs n x h in omega arith

-- the next of a list of names
pub finds_next : {A : Type 0} (names : List (List ℕ)) (at : ℕ) (name : List ℕ) (old new : List (Vec ℕ A × ℕ)) → slice_get names at ≡ Some name
    → Finds (take at names) old → FindsMore old name at new → Finds (take (at + 1) names) new
finds_next names at name old new there finds more = subst (λ l. Finds l new) (sym (taken names at name there)) (more (take at names) finds (long names at name there))
