-- The table of the constructors that take a value of a sort, number by number.
use Rattle.std.proofs.Common.{◌≡◌, ℕ, zero, suc, ◌+◌, ◌<◌, ◌≤◌, List, [], ◌∷◌, ◌++◌, length, take, slice_get, slice_index_or, slice_set, Some, None, refl, sym, ap, subst, ◌∙◌, arith, ◌⊎◌, inl, inr}
use Rattle.std.specs.Prelude.{Vec, vec_items}
use Rattle.std.proofs.lemmas.Option.{slice_get_within}
use Rattle.std.proofs.lemmas.List.{length-set}
use Rattle.law_sig.specs.Lists.{In}
use Rattle.law_sig.specs.Lists.In.{here, there}
use Rattle.law_sig.specs.declared.tree.SortId.{SortId}
use Rattle.law_sig.specs.declared.parts.Con.{Con}
use Rattle.law_sig.specs.declared.parts.Sym.{Sym}
use Rattle.law_sig.specs.declared.parts.Sym.TheVariants as symbol
use Rattle.law_laws.proofs.BodyFacts.{none_is, some_is}
use Rattle.law_laws.proofs.ListFacts.{in_left, in_none, in_rest, in_right, in_split}
use Rattle.law_typing.specs.declared.whole.Whole.{Whole}
use Rattle.law_types.specs.Valued.{AreNoted, AreTakers, IsNoted, Takes}

-- an item of a list in which one place was set
abbrev SetAt : {A : Type 0} → List A → ℕ → ℕ → A → A → Type 0
SetAt xs m i y x = ((i ≡ m) × (x ≡ y)) ⊎ ((i ≡ m → ⊥) × (slice_get xs i ≡ Some x))

set_get : {A : Type 0} (xs : List A) (m i : ℕ) (y x : A) → slice_get (slice_set xs m y) i ≡ Some x → SetAt xs m i y x
set_get [] m i y x e = none_is x e
set_get (z ∷ xs) zero zero y x e = inl (refl, sym (some_is y x e))
set_get (z ∷ xs) zero (suc i) y x e = inr ((λ q. omega arith), e)
set_get (z ∷ xs) (suc m) zero y x e = inr ((λ q. omega arith), e)
set_get (z ∷ xs) (suc m) (suc i) y x e = by (set_get xs m i y x e)
  where
    by : SetAt xs m i y x → SetAt (z ∷ xs) (suc m) (suc i) y x
    by (inl p) = inl (ap suc p.0, p.1)
    by (inr g) = inr ((λ q. g.0 (omega arith)), g.1)

pub noted : {A : Type 0} (sort number : ℕ) (old : List (Vec ℕ A)) (was row : Vec ℕ A) → slice_get old sort ≡ Some was → vec_items row ≡ vec_items was ++ number ∷ []
    → IsNoted sort number old (slice_set old sort row)
noted {A} sort number old was row is more = record {
  one_each = length-set old sort row;
  kept = λ place found at. by place found (set_get old sort place row found at);
}
  where
    by : (place : ℕ) (found : Vec ℕ A) → SetAt old sort place row found
        → (before : Vec ℕ A) × (slice_get old place ≡ Some before) × ((n : ℕ) → In n (vec_items before) → In n (vec_items found)) × (place ≡ sort → In number (vec_items found))
    by place found (inl p) = (
      was,
      ap (slice_get old) p.0 ∙ is,
      (λ n h. subst (λ r. In n (vec_items r)) (sym p.1) (subst (In n) (sym more) (in_left (number ∷ []) h))),
      λ e. subst (λ r. In number (vec_items r)) (sym p.1) (subst (In number) (sym more) (in_right (vec_items was) here)),
    )
    by place found (inr g) = (found, g.1, (λ n h. h), λ e. absurd (g.0 e))

pub not_noted : {A : Type 0} (sort number : ℕ) (old : List (Vec ℕ A)) → length old ≤ sort → IsNoted sort number old old
not_noted sort number old beyond = record {
  one_each = refl;
  kept = λ place found at. (found, at, (λ n h. h), λ e. let within = slice_get_within old place found at in absurd (omega arith));
}

-- the rows of several sorts
pub starts_noted : {A : Type 0} (sorts : List SortId) (number : ℕ) (old : List (Vec ℕ A)) → AreNoted (take 0 sorts) number old old
starts_noted sorts number old = record { one_each = refl; kept = λ place found at. (found, at, (λ n h. h), λ sort h e. in_none h) }

pub more_noted : {A : Type 0} (sorts : List SortId) (i : ℕ) (d : SortId) (number : ℕ) (old mid new : List (Vec ℕ A)) → i < length sorts
    → AreNoted (take i sorts) number old mid → IsNoted (slice_index_or sorts i d).0 number mid new → AreNoted (take (i + 1) sorts) number old new
more_noted {A} sorts i d number old mid new within before one = record {
  one_each = one.one_each ∙ before.one_each;
  kept = λ place found at.
      let k = one.kept place found at in
      let b = before.kept place k.0 k.1 in
      (b.0, b.1, (λ n h. k.2 n (b.2 n h)), λ s h e. which place found k.0 s (k.2 number) k.3 (b.3 s) (in_split (take i sorts) (sort ∷ []) (subst (In s) (ap (λ n. take n sorts) next ∙ taken sorts i within) h)) e);
}
  where
    sort : SortId
    sort = slice_index_or sorts i d

    next : i + 1 ≡ suc i
    next = omega arith

    taken : (xs : List SortId) (k : ℕ) → k < length xs → take (suc k) xs ≡ take k xs ++ slice_index_or xs k d ∷ []
    taken [] k h = absurd (omega arith)
    taken (y ∷ xs) zero h = refl
    taken (y ∷ xs) (suc k) h = ap (λ l. y ∷ l) (taken xs k (omega arith))

    one_is : {x y : SortId} → In x (y ∷ []) → x ≡ y
    one_is {x} {y} h = by (in_rest h)
      where
        by : (x ≡ y) ⊎ In x [] → x ≡ y
        by (inl e) = e
        by (inr r) = in_none r

    which : (place : ℕ) (found was : Vec ℕ A) (s : SortId) → (In number (vec_items was) → In number (vec_items found)) → (place ≡ sort.0 → In number (vec_items found)) → (In s (take i sorts) → s.0 ≡ place → In number (vec_items was))
        → In s (take i sorts) ⊎ In s (sort ∷ []) → s.0 ≡ place → In number (vec_items found)
    which place found was s keep mine before (inl h) e = keep (before h e)
    which place found was s keep mine before (inr h) e = mine (sym e ∙ ap (λ z. z.0) (one_is h))

-- the table among one more symbol
pub starts_taken : {A : Type 0} (text : Whole) (table : List (Vec ℕ A)) → length table ≡ length text.sorts → AreTakers text 0 table
starts_taken text table e = record { one_each = e; all = λ number sort s row h found takes at. absurd (omega arith) }

kept_below : (number n : ℕ) → n < number + 1 → (n ≡ number) ⊎ (n < number)
kept_below number n h = grind arith

pub con_taken : {A : Type 0} (text : Whole) (number : ℕ) (con : Con) (old new : List (Vec ℕ A)) → slice_get text.symbols number ≡ Some (symbol.Con con) → AreTakers text number old
    → AreNoted con.args number old new → AreTakers text (number + 1) new
con_taken {A} text number con old new is before noted = record {
  one_each = noted.one_each ∙ before.one_each;
  all = λ n sort s row h found takes at.
      let k = noted.kept sort row at in by n sort s row (kept_below number n h) found takes k.0 k.1 k.2 k.3;
}
  where
    by : (n sort : ℕ) (s : Sym) (row : Vec ℕ A) → (n ≡ number) ⊎ (n < number) → slice_get text.symbols n ≡ Some s → Takes sort s → (was : Vec ℕ A) → slice_get old sort ≡ Some was
        → ((m : ℕ) → In m (vec_items was) → In m (vec_items row)) → ((arg : SortId) → In arg con.args → arg.0 ≡ sort → In number (vec_items row)) → In n (vec_items row)
    by n sort s row (inr l) found takes was at keep mine = keep n (before.all n sort s was l found takes at)
    by n sort s row (inl e) found takes was at keep mine =
        let same = some_is s (symbol.Con con) (sym (subst (λ k. slice_get text.symbols k ≡ Some s) e found) ∙ is) in
        let t = subst (Takes sort) same takes in
        subst (λ k. In k (vec_items row)) (sym e) (mine t.0 t.1 t.2)

pub fun_taken : {A : Type 0} (text : Whole) (number : ℕ) (s : Sym) (table : List (Vec ℕ A)) → slice_get text.symbols number ≡ Some s → ((sort : ℕ) → Takes sort s → ⊥) → AreTakers text number table
    → AreTakers text (number + 1) table
fun_taken {A} text number s table is none before = record {
  one_each = before.one_each;
  all = λ n sort other row h found takes at. by n sort other row (kept_below number n h) found takes at;
}
  where
    by : (n sort : ℕ) (other : Sym) (row : Vec ℕ A) → (n ≡ number) ⊎ (n < number) → slice_get text.symbols n ≡ Some other → Takes sort other → slice_get table sort ≡ Some row → In n (vec_items row)
    by n sort other row (inr l) found takes at = before.all n sort other row l found takes at
    by n sort other row (inl e) found takes at =
        let same = some_is other s (sym (subst (λ k. slice_get text.symbols k ≡ Some other) e found) ∙ is) in
        absurd (none sort (subst (Takes sort) same takes))

pub all_taken : {A : Type 0} (text : Whole) (at : ℕ) (table : List (Vec ℕ A)) → length text.symbols ≤ at → AreTakers text at table → AreTakers text (length text.symbols) table
all_taken text at table over t = record { one_each = t.one_each; all = λ number sort s row h found takes is. t.all number sort s row (omega arith) found takes is }
